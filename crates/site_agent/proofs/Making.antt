-- Building the list of a site's plates, one by one.
use Rattle.std.proofs.Common.{◌≡◌, ℕ, ◌+◌, ◌^◌, ◌<◌, ◌≤◌, Bool, true, false, cond, if◌then◌else◌, List, [], ◌∷◌, ◌++◌, length, map, take, get_or, refl, sym, ap, subst, ◌∙◌, arith}
use Rattle.std.specs.Prelude.{filter}
use Rattle.std.specs.List.{flat_map}
use Rattle.std.proofs.lemmas.List.{append-nil, append_assoc, map-append}
use Rattle.std.proofs.lemmas.List.Elements.{filter_more}
use Rattle.std.proofs.lemmas.Grind.{flat_map-append, take_at_read}
use Rattle.pr_base.specs.declared.ink.Ink.{Ink}
use Rattle.plan_json.specs.Data.{PlanData}
use Rattle.plan_json.specs.Plan.{IsPlan}
use Rattle.plan_rows.specs.declared.group.Group.{Group}
use Rattle.plan_rows.specs.Inks.{inks_of, ink_count, ink_place, has_site}
use Rattle.plan_rows.specs.Groups.{groups_of}
use Rattle.plan_rows.specs.Plates.{group_plates}
use Rattle.plan_rows.specs.Rows.{rows_of, row_total}
use Rattle.plan_rows.proofs.Places.{ink_place-at, plan_is}
use Rattle.plan_rows.proofs.RowLemmas.{ink_count-within, first_is, rows_before-within, total-most}
use Rattle.site_agent.specs.declared.plate.SitePlate.{SitePlate}
use Rattle.site_agent.specs.Plan.{plate_of}

-- the ink at an index of a group
pub place-is : (group : Group) (inks : List Ink) (i : ℕ) (d : Ink) → inks ≡ inks_of group → i < length inks
    → i ≡ ink_place group (get_or inks i d)
place-is group inks i d are within =
    let less : i < ink_count group = subst (λ (list : List Ink). i < length list) are within in
    sym (ap (λ list. ink_place group (get_or list i d)) are ∙ ink_place-at group i d less)

pub few-inks : (group : Group) (inks : List Ink) (i : ℕ) → inks ≡ inks_of group → i < length inks → i < 5
few-inks group inks i are within = let most : ink_count group ≤ 5 = (ink_count-within group).most in let same : length inks ≡ ink_count group = ap length are in omega arith

-- one more plate of a group
pub plates-more : (plan : PlanData) (out : List ℕ) (site : ℕ) (group : Group) (inks : List Ink) (i : ℕ)
    (d : Ink) (plate : SitePlate) (old now next : List SitePlate) → i < length inks
    → plate ≡ plate_of plan out site (group, get_or inks i d)
    → now ≡ old ++ map (λ k. plate_of plan out site (group, k)) (take i inks) → next ≡ now ++ plate ∷ []
    → next ≡ old ++ map (λ k. plate_of plan out site (group, k)) (take (i + 1) inks)
plates-more plan out site group inks i d plate old now next within made so_far then' =
    then'
    ∙ ap (λ list. list ++ plate ∷ []) so_far
    ∙ append_assoc old (map (λ k. plate_of plan out site (group, k)) (take i inks)) (plate ∷ [])
    ∙ ap (λ p. old ++ (map (λ k. plate_of plan out site (group, k)) (take i inks) ++ p ∷ [])) made
    ∙ ap (λ list. old ++ list) (sym (map-append (λ k. plate_of plan out site (group, k)) (take i inks) (get_or inks i d ∷ [])) ∙ ap (map (λ k. plate_of plan out site (group, k))) (sym ((take_at_read inks i d within).1)))

-- the plates of the groups so far
abbrev pub plates_so_far : PlanData → List ℕ → ℕ → List Group → List SitePlate
plates_so_far plan out site groups = map (plate_of plan out site) (flat_map group_plates (filter (λ group. has_site group site) groups))

-- including a group that the site prints
pub group-more : (plan : PlanData) (out : List ℕ) (site : ℕ) (groups : List Group) (i : ℕ) (d : Group)
    (now next : List SitePlate) → i < length groups → has_site (get_or groups i d) site ≡ true
    → now ≡ plates_so_far plan out site (take i groups)
    → next ≡ now ++ map (plate_of plan out site) (group_plates (get_or groups i d))
    → next ≡ plates_so_far plan out site (take (i + 1) groups)
group-more plan out site groups i d now next within printed so_far then' =
    let test : Group → Bool = λ group. has_site group site in
    let front : List Group = filter test (take i groups) in
    let group : Group = get_or groups i d in
    then'
    ∙ ap (λ list. list ++ map (plate_of plan out site) (group_plates group)) so_far
    ∙ sym (map-append (plate_of plan out site) (flat_map group_plates front) (group_plates group))
    ∙ ap (λ list. map (plate_of plan out site) (flat_map group_plates front ++ list)) (sym (append-nil (group_plates group)))
    ∙ ap (map (plate_of plan out site)) (sym (flat_map-append group_plates front (group ∷ [])))
    ∙ ap (λ list. map (plate_of plan out site) (flat_map group_plates list)) (sym (filter_more test groups i d within ∙ ap (λ b. front ++ cond b (group ∷ []) []) printed))

-- and one that it does not
pub group-other : (plan : PlanData) (out : List ℕ) (site : ℕ) (groups : List Group) (i : ℕ) (d : Group)
    (now : List SitePlate) → i < length groups → has_site (get_or groups i d) site ≡ false
    → now ≡ plates_so_far plan out site (take i groups)
    → now ≡ plates_so_far plan out site (take (i + 1) groups)
group-other plan out site groups i d now within other so_far =
    let test : Group → Bool = λ group. has_site group site in
    let front : List Group = filter test (take i groups) in
    so_far
    ∙ ap (λ list. map (plate_of plan out site) (flat_map group_plates list)) (sym (filter_more test groups i d within ∙ ap (λ b. front ++ cond b (get_or groups i d ∷ []) []) other ∙ append-nil front))

-- one more group
pub group-step : (plan : PlanData) (out : List ℕ) (site : ℕ) (groups : List Group) (i : ℕ) (d : Group)
    (now next : List SitePlate) → i < length groups → now ≡ plates_so_far plan out site (take i groups)
    → next ≡ (if has_site (get_or groups i d) site then now ++ map (plate_of plan out site)
    (group_plates (get_or groups i d)) else now) → next ≡ plates_so_far plan out site (take (i + 1) groups)
group-step plan out site groups i d now next within so_far then' = by_test (has_site (get_or groups i d) site) refl then' where
  by_test : (b : Bool) → has_site (get_or groups i d) site ≡ b
      → next ≡ (if b then now ++ map (plate_of plan out site) (group_plates (get_or groups i d)) else now)
      → next ≡ plates_so_far plan out site (take (i + 1) groups)
  by_test true is then'' = group-more plan out site groups i d now next within is so_far then''
  by_test false is then'' = then'' ∙ group-other plan out site groups i d now within is so_far

-- the first row of a group is one of all rows
pub first-few : (plan : PlanData) (i : ℕ) (d : Group) → IsPlan plan → i < length (groups_of plan)
    → (get_or (groups_of plan) i d).first < 2 ^ 32
first-few plan i d is within =
    let first = first_is (row_total (rows_of plan)) (rows_of plan) i d (plan_is plan is) within in
    let most = total-most (row_total (rows_of plan)) (rows_of plan) (plan_is plan is) in
    let before = rows_before-within (rows_of plan) i in
    omega (arith, first, most, before)
