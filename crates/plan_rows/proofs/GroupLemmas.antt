-- Facts about each group of a plan: its section and pair, its pages, and the inks that follow from them.
use Rattle.std.proofs.Common.{◌≡◌, ℕ, zero, suc, ◌+◌, ◌-◌, ◌*◌, ◌/◌, ◌%◌, ◌<◌, ◌≤◌, Bool, true, false, cond, nat_eq, List, [], ◌∷◌, ◌++◌, length, get_or, refl, ap, sym, subst, ◌∙◌, arith}
use Rattle.std.specs.Prelude.{All, filter, ◌||◌}
use Rattle.std.specs.List.{flat_map, range_with_len}
use Rattle.std.proofs.lemmas.List.Elements.{All-append, All-cons, All-filter, All-head, All-map, All-nil, All-tail, All-weaker}
use Rattle.std.proofs.lemmas.List.FromFn.{get_or-range_with_len, length-range_with_len, length-map-range_with_len, get_or-map-range_with_len}
use Rattle.plan_json.specs.Data.{PlanData, plate_height}
use Rattle.plan_json.specs.Plan.{IsPlan}
use Rattle.plan_pages.specs.Pages.{page_count, pair_of}
use Rattle.plan_pages.proofs.PageLemmas.{chosen_page-within}
use Rattle.plan_rows.specs.declared.group.Group.{Group}
use Rattle.plan_rows.specs.Inks.{has_site, inks_of, process_inks, spot_inks}
use Rattle.plan_rows.specs.Groups.{group_of, groups_of, is_first, numbered, page_colour, page_spot, pages_at, pages_of, pair_groups, row_count, same_pages, section_groups, site_pages}
use Rattle.plan_rows.specs.Plates.{PlateOf, group_plates}
use Rattle.plan_rows.proofs.CountLemmas.{section_count}
use Rattle.plan_rows.proofs.SitesOf.{has_site_is, pair_decides}

-- ---- lists

-- what holds for each piece holds for all pieces together
pub all_pieces : {X : Type 0} (P : X → Type 0) (f : ℕ → List X) (from n : ℕ)
    → ((k : ℕ) → from ≤ k → k < from + n → All P (f k)) → All P (flat_map f (range_with_len from n))
all_pieces P f from zero each = All-nil P
all_pieces P f from (suc n) each =
    All-append P (f from) (flat_map f (range_with_len (from + 1) n)) (each from (omega arith) (omega arith))
    (all_pieces P f (from + 1) n (λ k low high. each k (omega arith) (omega arith)))

below_all : (n : ℕ) → All (λ k. k < n) (range_with_len 0 n)
below_all n k d less =
    let long = length-range_with_len 0 n in
    let at : get_or (range_with_len 0 n) k d ≡ 0 + k = get_or-range_with_len 0 n k d (omega arith) in
    omega arith

-- ---- facts about each group

all_numbered : (P : Group → Type 0) (height first : ℕ) (groups : List Group)
    → ((group : Group) (n : ℕ) → P group → P (record group { first = n }))
    → All P groups → All P (numbered height first groups)
all_numbered P height first [] stays each = All-nil P
all_numbered P height first (group ∷ groups) stays each =
    let next = first + row_count height group in
    All-cons P (record group { first = first }) (numbered height next groups)
    (stays group first (All-head P group groups each))
    (all_numbered P height next groups stays (All-tail P group groups each))

-- a fact about the sites that print one pair of pages, for any number of the group's first row
pub record IsOfEach (plan : PlanData) (P : Group → Type 0) : Type 0 where
  pub stays : (group : Group) (n : ℕ) → P group → P (record group { first = n })
  pub each : (section pair site : ℕ) → section < length plan.sections
      → 1 ≤ pair → 2 * pair ≤ page_count plan section → site < length plan.sites
      → P (group_of plan section pair (site_pages plan section pair) site)

all_of_pair : (plan : PlanData) (P : Group → Type 0) (section pair : ℕ) → IsOfEach plan P
    → section < length plan.sections → 1 ≤ pair → 2 * pair ≤ page_count plan section
    → All P (pair_groups plan section pair)
unfolding pair_groups
all_of_pair plan P section pair is in_plan first last =
    let pages = site_pages plan section pair in
    let of : ℕ → Group = group_of plan section pair pages in
    let all = range_with_len 0 (length plan.sites) in
    let Within : ℕ → Type 0 = λ site. site < length plan.sites in
    All-map P of (filter (is_first pages) all)
    (All-weaker Within (λ site. P (of site))
    (λ site within. is.each section pair site in_plan first last within)
    (filter (is_first pages) all) (All-filter (is_first pages) Within all (below_all (length plan.sites))))

all_of_section : (plan : PlanData) (P : Group → Type 0) (section : ℕ) → IsOfEach plan P
    → section < length plan.sections → All P (section_groups plan section)
unfolding section_groups
all_of_section plan P section is in_plan =
    all_pieces P (pair_groups plan section) 1 (page_count plan section / 2)
    (λ pair low high. all_of_pair plan P section pair is in_plan low (omega arith))

-- it holds for each group of the plan
pub all_groups : (plan : PlanData) (P : Group → Type 0) → IsOfEach plan P → All P (groups_of plan)
unfolding groups_of
all_groups plan P is =
    let sections = range_with_len 0 (length plan.sections) in
    all_numbered P (plate_height plan) 0 (flat_map (section_groups plan) sections) is.stays
    (all_pieces P (section_groups plan) 0 (length plan.sections)
    (λ section _ high. all_of_section plan P section is (omega arith)))

-- what holds for each plate of each group holds for all plates of the groups
pub plates_each : (P : PlateOf → Type 0) (groups : List Group)
    → All (λ group. All (λ ink. P (group, ink)) (inks_of group)) groups → All P (flat_map group_plates groups)
plates_each P [] each = All-nil P
plates_each P (group ∷ groups) each =
    let Of : Group → Type 0 = λ g. All (λ ink. P (g, ink)) (inks_of g) in
    All-append P (group_plates group) (flat_map group_plates groups)
    (All-map P (λ ink. (group, ink)) (inks_of group) (All-head Of group groups each))
    (plates_each P groups (All-tail Of group groups each))

-- groups with the same colour and spot flags have the same inks
pub inks_by : (a b : Group) → a.colour ≡ b.colour → a.spot ≡ b.spot → inks_of a ≡ inks_of b
inks_by a b colour spot =
    ap (λ c. process_inks c ++ spot_inks a.spot) colour ∙ ap (λ s. process_inks b.colour ++ spot_inks s) spot

-- ---- groups are within the plan

-- a group's section is in the plan and its pair is in the section; its two pages are pages of the plan, those
-- that each of its sites prints as this pair, and they determine its inks
pub record InPlan (plan : PlanData) (group : Group) : Type 0 where
  pub section : group.section < length plan.sections
  pub pair : group.pair ≤ 64
  pub first : 1 ≤ group.pair
  pub last : 2 * group.pair ≤ page_count plan group.section
  pub left : group.left < length plan.pages
  pub right : group.right < length plan.pages
  pub pages : (site : ℕ) → site < length plan.sites → has_site group site ≡ true
      → pages_at plan group.section group.pair site ≡ (group.left, group.right)
  pub colour : group.colour ≡ (page_colour plan group.left || page_colour plan group.right)
  pub spot : group.spot ≡ (page_spot plan group.left || page_spot plan group.right)

-- each site has its two pages
pub site_pages-size : (plan : PlanData) (section pair : ℕ)
    → length (site_pages plan section pair) ≡ length plan.sites
unfolding site_pages
site_pages-size plan section pair =
    length-map-range_with_len (pages_at plan section pair) 0 (length plan.sites)

site_pages-at : (plan : PlanData) (section pair site : ℕ) → site < length plan.sites
    → pages_of (site_pages plan section pair) site ≡ pages_at plan section pair site
unfolding site_pages
site_pages-at plan section pair site within =
    get_or-map-range_with_len (pages_at plan section pair) 0 (length plan.sites) site site (0, 0) within
    (omega arith)

-- the two places of a pair are in the section
record AreWithin (n : ℕ) (places : ℕ × ℕ) : Type 0 where
  first : (1 ≤ places.0) × (places.0 ≤ n)
  second : (1 ≤ places.1) × (places.1 ≤ n)

places_in : (n j : ℕ) → 1 ≤ j → 2 * j ≤ n → AreWithin n (pair_of n j)
places_in n j first last = by_parity (nat_eq (j % 2) 0)
  where
    by_parity : (even : Bool) → AreWithin n (cond {A = ℕ × ℕ} even (j, n + 1 - j) (n + 1 - j, j))
    by_parity true = record { first = (omega arith, omega arith); second = (omega arith, omega arith) }
    by_parity false = record { first = (omega arith, omega arith); second = (omega arith, omega arith) }

site_in_plan : (plan : PlanData) (section pair site : ℕ) → IsPlan plan
    → section < length plan.sections → 1 ≤ pair → 2 * pair ≤ page_count plan section
    → site < length plan.sites
    → InPlan plan (group_of plan section pair (site_pages plan section pair) site)
unfolding group_of
site_in_plan plan section pair site is in_plan first last within =
    let all = site_pages plan section pair in
    let here = site_pages-at plan section pair site within in
    let most = (section_count plan section is in_plan).within.most in
    let own = pair_of (page_count plan section) pair in
    let places = places_in (page_count plan section) pair first last in
    record {
      section = in_plan;
      pair = omega arith;
      first = first;
      last = last;
      left = subst {A = ℕ × ℕ} (λ pages. pages.0 < length plan.pages) (sym here)
          (chosen_page-within plan site section own.0 is places.first.0 places.first.1);
      right = subst {A = ℕ × ℕ} (λ pages. pages.1 < length plan.pages) (sym here)
          (chosen_page-within plan site section own.1 is places.second.0 places.second.1);
      pages = λ k low has.
          let long : k < length all = omega (arith, site_pages-size plan section pair) in
          let same : same_pages (pages_of all site) (pages_of all k) ≡ true =
          sym (has_site_is plan section pair all site k long) ∙ has in
          sym (site_pages-at plan section pair k low)
          ∙ sym ((pair_decides (pages_of all site) (pages_of all k)).0 same);
      colour = refl;
      spot = refl;
    }

-- each group is for a pair of a section of the plan
pub groups_in_plan : (plan : PlanData) → IsPlan plan → All (InPlan plan) (groups_of plan)
groups_in_plan plan is = all_groups plan (InPlan plan) (record {
  stays = λ group n has. record {
    section = has.section;
    pair = has.pair;
    first = has.first;
    last = has.last;
    left = has.left;
    right = has.right;
    pages = has.pages;
    colour = has.colour;
    spot = has.spot;
  };
  each = λ section pair site in_plan first last within.
      site_in_plan plan section pair site is in_plan first last within;
})
