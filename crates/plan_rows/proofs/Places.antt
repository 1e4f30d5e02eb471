-- The rows of a plan: each row number is a row of the plate of one group in one of its inks.
use Rattle.std.proofs.Common.{◌≡◌, ℕ, zero, suc, ◌+◌, ◌-◌, ◌*◌, ◌/◌, ◌%◌, ◌<◌, ◌≤◌, Bool, true, false, List, [], ◌∷◌, ◌++◌, length, take, get_or, Some, refl, ap, sym, ◌∙◌, subst, inl, inr, arith}
use Rattle.std.specs.Prelude.{Contains, count_by, filter, nat_lt, slice_get, sum_by}
use Rattle.std.specs.List.{flat_map, range_with_len}
use Rattle.std.proofs.lemmas.List.{length-append, length-map}
use Rattle.std.proofs.lemmas.Bool.{cond_both, cases_lt}
use Rattle.std.proofs.lemmas.List.Elements.{Contains-get_or}
use Rattle.std.proofs.lemmas.List.FromFn.{length-range_with_len}
use Rattle.std.proofs.lemmas.List.Sums.{sum_by-cons}
use Rattle.std.proofs.lemmas.Nat.{mod_below}
use Rattle.std.proofs.lemmas.Option.{same_Some, slice_get_within, slice_get-get_or, get_or_from_slice_get}
use Rattle.std.proofs.Math.Nat.{mul-le-mul_right, div-add-mod, mul_comm}
use Rattle.pr_base.specs.declared.ink.Ink.{Ink}
use Rattle.pr_base.specs.declared.ink.Ink.TheVariants.{K}
use Rattle.plan_json.specs.Data.{PlanData, plate_height}
use Rattle.pr_base.specs.Number.{IsWithin}
use Rattle.plan_json.specs.Plan.{IsPlan}
use Rattle.pr_base.specs.Ink.{slot_of}
use Rattle.plan_pages.specs.Pages.{page_count}
use Rattle.plan_rows.specs.declared.group.Group.{Group}
use Rattle.plan_rows.specs.declared.place.RowPlace.{RowPlace}
use Rattle.plan_rows.specs.Inks.{process_inks, spot_inks, inks_of, ink_count, ink_place}
use Rattle.plan_rows.specs.Groups.{group_of, is_first, site_pages, pair_groups, section_groups, groups_of, row_count}
use Rattle.plan_rows.specs.Rows.{rows_of, place_of, row_places, row_total, rows_before, row_number, IsRowPlan, IsGroupAt}
use Rattle.plan_rows.proofs.CountLemmas.{section_count}
use Rattle.plan_rows.proofs.AddLemmas.{length-numbered, numbered-numbered}
use Rattle.plan_rows.proofs.RowLemmas.{ink_count-within, first_is, place_at, total_is, row_is_of}

-- ---- the row plan of a plan

length-filter-le : {X : Type 0} (test : X → Bool) (xs : List X) → length (filter test xs) ≤ length xs
length-filter-le test [] = omega arith
length-filter-le {X} test (x ∷ xs) =
    let rest = length-filter-le test xs in
    cond_both {A = List X} (test x) (x ∷ filter test xs) (filter test xs) (λ ys. length ys ≤ suc (length xs)) (λ _. omega arith) (λ _. omega arith)

-- pieces of bounded length
length-pieces-le : {X : Type 0} (f : ℕ → List X) (most from n : ℕ) → ((k : ℕ) → from ≤ k → k < from + n → length (f k) ≤ most) → length (flat_map f (range_with_len from n)) ≤ n * most
length-pieces-le f most from zero each = omega arith
length-pieces-le f most from (suc n) each =
    let here = each from (omega arith) (omega arith) in
    let rest = length-pieces-le f most (from + 1) n (λ k low high. each k (omega arith) (omega arith)) in
    omega (arith, length-append (f from) (flat_map f (range_with_len (from + 1) n)))

pair_count : (plan : PlanData) (section pair : ℕ) → IsPlan plan → length (pair_groups plan section pair) ≤ 16
unfolding pair_groups
pair_count plan section pair is =
    let most = is.site_count.most in
    let pages = site_pages plan section pair in
    let firsts : List ℕ = filter (is_first pages) (range_with_len 0 (length plan.sites)) in
    omega (arith, length-map firsts (group_of plan section pair pages), length-filter-le (is_first pages) (range_with_len 0 (length plan.sites)), length-range_with_len 0 (length plan.sites))

section_groups_count : (plan : PlanData) (section : ℕ) → IsPlan plan → section < length plan.sections → length (section_groups plan section) ≤ 1024
unfolding section_groups
section_groups_count plan section is within =
    let most = (section_count plan section is within).within.most in
    let pairs : page_count plan section / 2 ≤ 64 = omega arith in
    let each = length-pieces-le (pair_groups plan section) 16 1 (page_count plan section / 2) (λ pair _ _. pair_count plan section pair is) in
    let all : page_count plan section / 2 * 16 ≤ 64 * 16 = mul-le-mul_right 16 pairs in
    omega arith

pub groups_count : (plan : PlanData) → IsPlan plan → length (groups_of plan) ≤ 8192
unfolding groups_of
groups_count plan is =
    let most = is.section_count.most in
    let all : List Group = flat_map (section_groups plan) (range_with_len 0 (length plan.sections)) in
    let each = length-pieces-le (section_groups plan) 1024 0 (length plan.sections) (λ section _ high. section_groups_count plan section is (omega arith)) in
    let total : length plan.sections * 1024 ≤ 8 * 1024 = mul-le-mul_right 1024 most in
    omega (arith, length-numbered (plate_height plan) 0 all)

pub height_within : (plan : PlanData) → IsPlan plan → IsWithin 1 65535 (plate_height plan)
height_within plan is = (let page = is.page_height.least in let most = is.height in record { least = omega arith; most = most })

-- the groups of a plan are numbered from 0
pub plan_is : (plan : PlanData) → IsPlan plan → IsRowPlan (row_total (rows_of plan)) (rows_of plan)
unfolding groups_of
plan_is plan is = record {
  in_order = sym (numbered-numbered (plate_height plan) 0 0 (flat_map (section_groups plan) (range_with_len 0 (length plan.sections))));
  total = refl;
  height = height_within plan is;
  count = groups_count plan is;
}

-- ---- an ink's position in its group

place_by_flags : (colour spot : Bool) (k : ℕ) (d : Ink) → k < length (process_inks colour ++ spot_inks spot)
    → count_by (λ other. nat_lt (slot_of other) (slot_of (get_or (process_inks colour ++ spot_inks spot) k d))) (process_inks colour ++ spot_inks spot) ≡ k
place_by_flags true true zero d small = refl
place_by_flags true true (suc zero) d small = refl
place_by_flags true true (suc (suc zero)) d small = refl
place_by_flags true true (suc (suc (suc zero))) d small = refl
place_by_flags true true (suc (suc (suc (suc zero)))) d small = refl
place_by_flags true true (suc (suc (suc (suc (suc k))))) d small = absurd (omega arith)
place_by_flags true false zero d small = refl
place_by_flags true false (suc zero) d small = refl
place_by_flags true false (suc (suc zero)) d small = refl
place_by_flags true false (suc (suc (suc zero))) d small = refl
place_by_flags true false (suc (suc (suc (suc k)))) d small = absurd (omega arith)
place_by_flags false true zero d small = refl
place_by_flags false true (suc zero) d small = refl
place_by_flags false true (suc (suc k)) d small = absurd (omega arith)
place_by_flags false false zero d small = refl
place_by_flags false false (suc k) d small = absurd (omega arith)

pub ink_place-at : (group : Group) (k : ℕ) (d : Ink) → k < ink_count group → ink_place group (get_or (inks_of group) k d) ≡ k
ink_place-at group k d small = place_by_flags group.colour group.spot k d small

pub ink_place-within : (group : Group) (ink : Ink) → Contains (inks_of group) ink → ink_place group ink < ink_count group
ink_place-within group ink (k, within, there) =
    subst {A = Ink} (λ i. ink_place group i < ink_count group) there (subst {A = ℕ} (λ n. n < ink_count group) (sym (ink_place-at group k ink within)) within)

ink_at-place : (group : Group) (ink : Ink) → Contains (inks_of group) ink → get_or (inks_of group) (ink_place group ink) ink ≡ ink
ink_at-place group ink (k, within, there) =
    let place : ink_place group ink ≡ k = ap {A = Ink} (λ i. ink_place group i) (sym there) ∙ ink_place-at group k ink within in
    ap (λ n. get_or (inks_of group) n ink) place ∙ there

-- ---- the place of a row

-- row n is row y of the plate of this group, which has this index, in this ink
pub record IsRowAt (plan : PlanData) (n index : ℕ) (group : Group) (y : ℕ) (ink : Ink) : Type 0 where
  pub of : slice_get (groups_of plan) index ≡ Some group
  pub top : y < plate_height plan
  pub printed : Contains (inks_of group) ink
  pub number : n ≡ row_number group y ink

-- at its number, the list of all rows has its place
pub row_placed : (plan : PlanData) (n index : ℕ) (group : Group) (y : ℕ) (ink : Ink) → IsPlan plan → IsRowAt plan n index group y ink → slice_get (row_places plan) n ≡ Some (place_of index y ink)
row_placed plan n index group y ink is at =
    let rows = rows_of plan in
    let within : index < length rows.groups = slice_get_within rows.groups index group at.of in
    let there : get_or rows.groups index group ≡ group = get_or_from_slice_get rows.groups index group group at.of in
    let first : group.first ≡ rows_before rows index = ap {A = Group} (λ g. g.first) (sym there) ∙ first_is (row_total rows) rows index group (plan_is plan is) within in
    let k = ink_place group ink in
    let small : k < ink_count group = ink_place-within group ink at.printed in
    let number : n ≡ rows_before rows index + (y * ink_count group + k) = at.number ∙ omega arith in
    ap (λ m. slice_get (row_places plan) m) (number ∙ ap {A = Group} (λ g. rows_before rows index + (y * ink_count g + k)) (sym there))
    ∙ place_at rows index y k group ink within at.top (subst {A = Group} (λ g. k < ink_count g) (sym there) small)
    ∙ ap {A = Group} (λ g. Some (place_of index y (get_or (inks_of g) k ink))) there
    ∙ ap {A = Ink} (λ i. Some (place_of index y i)) (ink_at-place group ink at.printed)

-- the group of a row, by the rows before it
group_by_sums : (f : Group → ℕ) (groups : List Group) (n : ℕ) → n < sum_by f groups → (index : ℕ) × (index < length groups) × (sum_by f (take index groups) ≤ n) × (n < sum_by f (take (index + 1) groups))
group_by_sums f [] n within = absurd (omega arith)
group_by_sums f (group ∷ groups) n within =
    let all = sum_by-cons f group groups in
    elim (cases_lt n (f group)) [
      | inl here ↦ let one = sum_by-cons f group [] in (0, omega arith, omega arith, omega arith)
      | inr later ↦
          let rest = group_by_sums f groups (n - f group) (omega arith) in
          let index = rest.0 in
          let low = rest.2 in
          let high = rest.3 in
          let below = rest.1 in
          let before = sum_by-cons f group (take index groups) in
          let behind = sum_by-cons f group (take (index + 1) groups) in
          let next : suc index + 1 ≡ suc (index + 1) = omega arith in
          let sums : sum_by f (take (suc index + 1) (group ∷ groups)) ≡ f group + sum_by f (take (index + 1) groups) = ap (λ k. sum_by f (take k (group ∷ groups))) next ∙ behind in
          (suc index, omega arith, omega arith, omega arith)
    ]

-- each row has a place: it is a row of the plate of some group in one of its inks
pub row_found : (plan : PlanData) (n : ℕ) (place : RowPlace) → IsPlan plan → slice_get (row_places plan) n ≡ Some place → (group : Group) × IsRowAt plan n place.group group place.y place.ink × (place.slot ≡ slot_of place.ink)
row_found plan n place is there =
    let rows = rows_of plan in
    let within : n < row_total rows = subst {A = ℕ} (λ m. n < m) (total_is rows) (slice_get_within (row_places plan) n place there) in
    let found = group_by_sums (row_count rows.height) rows.groups n within in
    let index = found.0 in
    let at : IsGroupAt rows n index = record { within = found.1; begins = found.2; ends = found.3 } in
    let any : Group = record { section = 0; pair = 0; left = 0; right = 0; sites = 0; colour = false; spot = false; first = 0 } in
    let group : Group = get_or rows.groups index any in
    let same : group ≡ get_or rows.groups index group = sym (get_or-default rows.groups index group any found.1) in
    let of = row_is_of (row_total rows) rows rows n index group (inks_of group) (plan_is plan is) refl at same refl in
    let count = ink_count group in
    let least = (ink_count-within group).least in
    let y = (n - group.first) / count in
    let k = (n - group.first) % count in
    let small : k < count = mod_below (n - group.first) count (omega arith) in
    let ink : Ink = get_or (inks_of group) k K in
    let is_place : place ≡ place_of index y ink = same_Some place (place_of index y ink) (sym there ∙ of.place K) in
    let begins = of.begins in
    let split : y * count + k ≡ n - group.first = omega (arith, div-add-mod (n - group.first) count, mul_comm y count) in
    let row : IsRowAt plan n index group y ink = record {
      of = slice_get-get_or rows.groups index any found.1;
      top = of.y;
      printed = Contains-get_or (inks_of group) k K small;
      number = (let m : ink_place group ink ≡ k = ink_place-at group k K small in omega arith);
    } in
    (group, subst {A = RowPlace} (λ p. IsRowAt plan n p.group group p.y p.ink) (sym is_place) row, subst {A = RowPlace} (λ p. p.slot ≡ slot_of p.ink) (sym is_place) refl)
  where
    get_or-default : {X : Type 0} (xs : List X) (i : ℕ) (d e : X) → i < length xs → get_or xs i d ≡ get_or xs i e
    get_or-default [] i d e within = absurd (omega arith)
    get_or-default (x ∷ xs) zero d e within = refl
    get_or-default (x ∷ xs) (suc i) d e within = get_or-default xs i d e (omega arith)

-- a row number has only one place
pub record IsSamePlace (index index' y y' : ℕ) (ink ink' : Ink) : Type 0 where
  pub same_group : index ≡ index'
  pub same_y : y ≡ y'
  pub same_ink : ink ≡ ink'

pub row_unique : (plan : PlanData) (n index index' : ℕ) (group group' : Group) (y y' : ℕ) (ink ink' : Ink) → IsPlan plan
    → IsRowAt plan n index group y ink → IsRowAt plan n index' group' y' ink' → IsSamePlace index index' y y' ink ink'
row_unique plan n index index' group group' y y' ink ink' is one other =
    let same : place_of index y ink ≡ place_of index' y' ink' =
    same_Some (place_of index y ink) (place_of index' y' ink') (sym (row_placed plan n index group y ink is one) ∙ row_placed plan n index' group' y' ink' is other) in
    record { same_group = ap {A = RowPlace} (λ p. p.group) same; same_y = ap {A = RowPlace} (λ p. p.y) same; same_ink = ap {A = RowPlace} (λ p. p.ink) same }
