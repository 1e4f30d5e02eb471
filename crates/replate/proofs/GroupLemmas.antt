-- What holds of the groups of a plan by their index: two groups of one place have the same pages and inks.
use Rattle.std.proofs.Common.{◌≡◌, ℕ, ◌<◌, length, ap, sym, subst, ◌∙◌}
use Rattle.std.specs.Prelude.{IsTrue, Some, slice_get, ◌||◌}
use Rattle.std.proofs.lemmas.List.Elements.{All-get_or}
use Rattle.std.proofs.lemmas.Option.{get_or_from_slice_get}
use Rattle.plan_json.specs.Data.{PlanData}
use Rattle.plan_json.specs.Plan.{IsPlan}
use Rattle.plan_rows.specs.declared.group.Group.{Group}
use Rattle.plan_rows.specs.Inks.{has_site, inks_of}
use Rattle.plan_rows.specs.Groups.{groups_of, page_colour, page_spot, pages_at}
use Rattle.plan_rows.specs.Rows.{RowPlanData, rows_of}
use Rattle.plan_rows.proofs.GroupLemmas.{InPlan, groups_in_plan, inks_by}
use Rattle.replate.specs.Plates.{group_at}
use Rattle.replate.specs.Standing.{IsOfPlan, StandsFor}
use Rattle.plan_rows.proofs.Names.{sites_apart, sections_apart}

pub group_in_plan : (plan : PlanData) (index : ℕ) → IsPlan plan → index < length (groups_of plan) → InPlan plan (group_at plan index)
group_in_plan plan index is within = All-get_or (InPlan plan) (groups_of plan) index _ within (groups_in_plan plan is)

pub group_of_plan : (plan : PlanData) (index : ℕ) → IsPlan plan → index < length (groups_of plan) → IsOfPlan plan (group_at plan index)
group_of_plan plan index is within =
    let of = group_in_plan plan index is within in
    record { section = of.section; pair = of.pair; left = of.left; right = of.right }

-- the group with an index in the plan's rows
pub group_is : (plan : PlanData) (rows : RowPlanData) (index : ℕ) (group : Group) → rows ≡ rows_of plan → slice_get rows.groups index ≡ Some group
    → group ≡ group_at plan index
group_is plan rows index group are is =
    sym (get_or_from_slice_get (groups_of plan) index group _ (ap {A = RowPlanData} (λ r. slice_get r.groups index) (sym are) ∙ is))

-- the number of groups in the plan's rows
pub count_is : (plan : PlanData) (rows : RowPlanData) (count : ℕ) → rows ≡ rows_of plan → count ≡ length rows.groups → count ≡ length (groups_of plan)
count_is plan rows count are is = is ∙ ap {A = RowPlanData} (λ r. length r.groups) are

-- two groups of one section, pair and site have the same pages
pub record SamePages (a b : Group) : Type 0 where
  pub left : a.left ≡ b.left
  pub right : a.right ≡ b.right

pub pages_alike : (plan : PlanData) (a b site : ℕ) → IsPlan plan → a < length (groups_of plan) → b < length (groups_of plan) → site < length plan.sites
    → (group_at plan a).section ≡ (group_at plan b).section → (group_at plan a).pair ≡ (group_at plan b).pair
    → IsTrue (has_site (group_at plan a) site) → IsTrue (has_site (group_at plan b) site) → SamePages (group_at plan a) (group_at plan b)
pages_alike plan a b site is left right within section pair of_a of_b =
    let first = (group_in_plan plan a is left).pages site within of_a in
    let second = (group_in_plan plan b is right).pages site within of_b in
    let places : pages_at plan (group_at plan a).section (group_at plan a).pair site ≡ pages_at plan (group_at plan b).section (group_at plan b).pair site =
    ap (λ s. pages_at plan s (group_at plan a).pair site) section ∙ ap (λ p. pages_at plan (group_at plan b).section p site) pair in
    record {
      left = ap {A = ℕ × ℕ} (λ p. p.0) (sym first ∙ places ∙ second);
      right = ap {A = ℕ × ℕ} (λ p. p.1) (sym first ∙ places ∙ second);
    }

-- groups with the same pages have the same inks
pub inks_alike : (plan : PlanData) (a b : ℕ) → IsPlan plan → a < length (groups_of plan) → b < length (groups_of plan)
    → SamePages (group_at plan a) (group_at plan b) → inks_of (group_at plan a) ≡ inks_of (group_at plan b)
inks_alike plan a b is left right same =
    let first = group_in_plan plan a is left in
    let second = group_in_plan plan b is right in
    let colour : (group_at plan a).colour ≡ (group_at plan b).colour =
    first.colour ∙ ap (λ l. page_colour plan l || page_colour plan (group_at plan a).right) same.left
    ∙ ap (λ r. page_colour plan (group_at plan b).left || page_colour plan r) same.right ∙ sym second.colour in
    let spot : (group_at plan a).spot ≡ (group_at plan b).spot =
    first.spot ∙ ap (λ l. page_spot plan l || page_spot plan (group_at plan a).right) same.left
    ∙ ap (λ r. page_spot plan (group_at plan b).left || page_spot plan r) same.right ∙ sym second.spot in
    inks_by (group_at plan a) (group_at plan b) colour spot

-- two groups that correspond to one group at one site have the same pages
pub stand_alike : (plan : PlanData) (site : ℕ) (group : Group) (other : PlanData) (its its' index index' : ℕ) → IsPlan other
    → StandsFor plan site group other its index → StandsFor plan site group other its' index' → SamePages (group_at other index) (group_at other index')
stand_alike plan site group other its its' index index' is one two =
    let sites : its ≡ its' = sites_apart other its its' is one.site_within two.site_within (one.site_named ∙ sym two.site_named) in
    let sections = sections_apart other (group_at other index).section (group_at other index').section is
    (group_in_plan other index is one.within).section (group_in_plan other index' is two.within).section (one.section_named ∙ sym two.section_named) in
    let Of : ℕ → Type 0 = λ s. IsTrue (has_site (group_at other index) s) in
    pages_alike other index index' its' is one.within two.within two.site_within sections (one.pair_is ∙ sym two.pair_is) (subst Of sites one.of_site) two.of_site
