-- The places of the rows of a row plan.
use Rattle.std.proofs.Common.{◌≡◌, ℕ, zero, suc, ◌+◌, ◌-◌, ◌*◌, ◌/◌, ◌%◌, ◌<◌, ◌≤◌, List, [], ◌∷◌, ◌++◌, length, map, take, get_or, Some, Bool, true, false, refl, ap, sym, ◌∙◌, subst, inl, inr, lit≤, arith}
use Rattle.std.specs.Prelude.{All, slice_get, sum_by}
use Rattle.std.specs.List.{flat_map, enumerate_from, range_with_len}
use Rattle.std.proofs.lemmas.List.{length-append, length-map, get_or-map, take_all}
use Rattle.std.proofs.lemmas.Bool.{cases_lt}
use Rattle.std.proofs.lemmas.List.Elements.{All-nil, All-cons}
use Rattle.pr_base.specs.Number.{IsWithin}
use Rattle.std.proofs.lemmas.List.Sums.{sum_by-cons, sum_by_more, sum_by-take-le, sum_by-le}
use Rattle.std.proofs.Math.Nat.{mul-le-mul_left, mul-le-mul_right, div-add-mod, div-lt_iff_lt-mul, mul_comm}
use Rattle.std.proofs.lemmas.Nat.{mod_below}
use Rattle.std.specs.Option.{option_map_or}
use Rattle.std.proofs.lemmas.List.Concat.{get_or-flat_map}
use Rattle.std.proofs.lemmas.List.FromFn.{length-range_with_len, get_or-range_with_len, length-enumerate_from, get_or-enumerate_from}
use Rattle.std.proofs.lemmas.Option.{slice_get-get_or}
use Rattle.pr_base.specs.declared.ink.Ink.{Ink}
use Rattle.pr_base.specs.declared.ink.Ink.TheVariants.{K}
use Rattle.plan_rows.specs.declared.group.Group.{Group}
use Rattle.plan_rows.specs.declared.place.RowPlace.{RowPlace}
use Rattle.plan_rows.specs.Inks.{process_inks, spot_inks, inks_of, ink_count, has_site}
use Rattle.plan_rows.specs.Groups.{numbered, row_count}
use Rattle.plan_rows.specs.Rows.{RowPlanData, place_of, group_rows, places_in, row_total, rows_before, is_of, keeps_in, IsRowPlan, IsGroupAt}

-- ---- the first rows of groups

pub numbered-first : (height from : ℕ) (groups : List Group) (i : ℕ) (d : Group) → i < length groups → (get_or (numbered height from groups) i d).first ≡ from + sum_by (row_count height) (take i groups)
numbered-first height from [] i d within = absurd (omega arith)
numbered-first height from (group ∷ groups) zero d within = omega arith
numbered-first height from (group ∷ groups) (suc i) d within =
    let here : sum_by (row_count height) (group ∷ take i groups) ≡ row_count height group + sum_by (row_count height) (take i groups) = sum_by-cons (row_count height) group (take i groups) in
    let rest = numbered-first height (from + row_count height group) groups i d (omega arith) in
    rest ∙ omega arith

-- the first row of a group comes after the rows of the groups before it
pub first_is : (total : ℕ) (rows : RowPlanData) (i : ℕ) (d : Group) → IsRowPlan total rows → i < length rows.groups → (get_or rows.groups i d).first ≡ rows_before rows i
first_is total rows i d is within =
    ap (λ groups. (get_or groups i d).first) is.in_order ∙ numbered-first rows.height 0 rows.groups i d within ∙ omega arith

-- ---- pieces of equal length

length-pieces : {X : Type 0} (f : ℕ → List X) (size from n : ℕ) → ((y : ℕ) → length (f y) ≡ size) → length (flat_map f (range_with_len from n)) ≡ n * size
length-pieces f size from zero each = omega arith
length-pieces f size from (suc n) each =
    let rest = length-pieces f size (from + 1) n each in
    let here = each from in
    length-append (f from) (flat_map f (range_with_len (from + 1) n)) ∙ omega arith

take-range : (from n k : ℕ) → k ≤ n → take k (range_with_len from n) ≡ range_with_len from k
take-range from n zero within = refl
take-range from zero (suc k) within = absurd (omega arith)
take-range from (suc n) (suc k) within = ap (λ xs. from ∷ xs) (take-range (from + 1) n k (omega arith))

take-enumerate : {X : Type 0} (from i : ℕ) (xs : List X) → take i (enumerate_from from xs) ≡ enumerate_from from (take i xs)
take-enumerate from zero xs = refl
take-enumerate from (suc i) [] = refl
take-enumerate from (suc i) (x ∷ xs) = ap (λ ys. (from, x) ∷ ys) (take-enumerate (from + 1) i xs)

-- ---- the rows of a group

abbrev inks_at : ℕ → Group → ℕ → List RowPlace
inks_at index group y = map (place_of index y) (inks_of group)

length-group_rows : (height index : ℕ) (group : Group) → length (group_rows height (index, group)) ≡ row_count height group
length-group_rows height index group =
    length-pieces (inks_at index group) (ink_count group) 0 height (λ y. length-map (inks_of group) (place_of index y))

get_or-group_rows : (height index y k : ℕ) (group : Group) (d : RowPlace) (ink : Ink) → y < height → k < ink_count group → get_or (group_rows height (index, group)) (y * ink_count group + k) d ≡ place_of index y (get_or (inks_of group) k ink)
get_or-group_rows height index y k group d ink within small =
    let f = inks_at index group in
    let each : (z : ℕ) → length (f z) ≡ ink_count group = λ z. length-map (inks_of group) (place_of index z) in
    let before : length (flat_map f (take y (range_with_len 0 height))) ≡ y * ink_count group =
    ap (λ ys. length (flat_map f ys)) (take-range 0 height y (omega arith)) ∙ length-pieces f (ink_count group) 0 y each in
    let there : get_or (range_with_len 0 height) y 0 ≡ y = get_or-range_with_len 0 height y 0 within ∙ omega arith in
    ap (λ n. get_or (group_rows height (index, group)) (n + k) d) (sym before)
    ∙ get_or-flat_map f (range_with_len 0 height) y k 0 d (omega (arith, length-range_with_len 0 height)) (omega (arith, each (get_or (range_with_len 0 height) y 0)))
    ∙ ap (λ z. get_or (f z) k d) there
    ∙ get_or-map (place_of index y) (inks_of group) k ink d small

pub length-places : (height from : ℕ) (groups : List Group) → length (flat_map (group_rows height) (enumerate_from from groups)) ≡ sum_by (row_count height) groups
length-places height from [] = refl
length-places height from (group ∷ groups) =
    length-append (group_rows height (from, group)) (flat_map (group_rows height) (enumerate_from (from + 1) groups))
    ∙ ap (λ n. n + length (flat_map (group_rows height) (enumerate_from (from + 1) groups))) (length-group_rows height from group)
    ∙ ap (λ n. row_count height group + n) (length-places height (from + 1) groups)
    ∙ sym (sum_by-cons (row_count height) group groups)

-- the number of rows is the length of the list of their places
pub total_is : (rows : RowPlanData) → length (places_in rows) ≡ row_total rows
unfolding places_in
total_is rows = length-places rows.height 0 rows.groups

-- a row's offset within its group is less than the number of the group's rows
row_within : (height count y k : ℕ) → y < height → k < count → y * count + k < height * count
row_within height count y k top small =
    let next : y + 1 ≤ height = omega arith in
    omega (arith, mul-le-mul_right count next)

pub rows_before-more : (rows : RowPlanData) (index : ℕ) (d : Group) → index < length rows.groups → rows_before rows (index + 1) ≡ rows_before rows index + row_count rows.height (get_or rows.groups index d)
rows_before-more rows index d within = sum_by_more (row_count rows.height) rows.groups index d within

pub rows_before-within : (rows : RowPlanData) (index : ℕ) → rows_before rows index ≤ row_total rows
rows_before-within rows index = sum_by-take-le (row_count rows.height) rows.groups index

-- the place of a row by its group, y and ink
pub place_at : (rows : RowPlanData) (index y k : ℕ) (d : Group) (ink : Ink) → index < length rows.groups → y < rows.height → k < ink_count (get_or rows.groups index d)
    → slice_get (places_in rows) (rows_before rows index + (y * ink_count (get_or rows.groups index d) + k)) ≡ Some (place_of index y (get_or (inks_of (get_or rows.groups index d)) k ink))
unfolding places_in
place_at rows index y k d ink within top small =
    let group = get_or rows.groups index d in
    let any : RowPlace = place_of 0 0 ink in
    let e : ℕ × Group = (0, d) in
    let all = enumerate_from 0 rows.groups in
    let here : get_or all index e ≡ (index, group) = get_or-enumerate_from 0 rows.groups index e within ∙ ap (λ n. (n, group)) (omega arith) in
    let before : length (flat_map (group_rows rows.height) (take index all)) ≡ rows_before rows index =
    ap (λ gs. length (flat_map (group_rows rows.height) gs)) (take-enumerate 0 index rows.groups) ∙ length-places rows.height 0 (take index rows.groups) in
    let inside : y * ink_count group + k < row_count rows.height group = row_within rows.height (ink_count group) y k top small in
    let size : length (group_rows rows.height (get_or all index e)) ≡ row_count rows.height group = ap (λ p. length (group_rows rows.height p)) here ∙ length-group_rows rows.height index group in
    slice_get-get_or (places_in rows) (rows_before rows index + (y * ink_count group + k)) any
    (omega (arith, total_is rows, rows_before-more rows index d within, rows_before-within rows (index + 1)))
    ∙ ap (λ p. Some p)
    (ap (λ n. get_or (places_in rows) (n + (y * ink_count group + k)) any) (sym before)
    ∙ get_or-flat_map (group_rows rows.height) all index (y * ink_count group + k) e any (omega (arith, length-enumerate_from 0 rows.groups)) (omega arith)
    ∙ ap (λ p. get_or (group_rows rows.height p) (y * ink_count group + k) any) here
    ∙ get_or-group_rows rows.height index y k group any ink top small)

-- ---- bounds

inks_most : (colour spot : Bool) → length (process_inks colour ++ spot_inks spot) ≤ 5
inks_most true true = lit≤ tt
inks_most true false = lit≤ tt
inks_most false true = lit≤ tt
inks_most false false = lit≤ tt

inks_least : (colour spot : Bool) → 1 ≤ length (process_inks colour ++ spot_inks spot)
inks_least true true = lit≤ tt
inks_least true false = lit≤ tt
inks_least false true = lit≤ tt
inks_least false false = lit≤ tt

-- a group has one to five inks
pub ink_count-within : (group : Group) → IsWithin 1 5 (ink_count group)
ink_count-within group = record { least = inks_least group.colour group.spot; most = inks_most group.colour group.spot }

pub row_count-most : (height : ℕ) (group : Group) → height ≤ 65535 → row_count height group ≤ 327675
row_count-most height group small =
    let most : ink_count group ≤ 5 = (ink_count-within group).most in
    let by_inks : height * ink_count group ≤ height * 5 = mul-le-mul_left height most in
    omega arith

-- what holds for every value holds for each element
All-all : {X : Type 0} (P : X → Type 0) (xs : List X) → ((x : X) → P x) → All P xs
All-all P [] each = All-nil P
All-all P (x ∷ xs) each = All-cons P x xs (each x) (All-all P xs each)

-- the most rows that the groups of any plan have
pub total-most : (whole : ℕ) (rows : RowPlanData) → IsRowPlan whole rows → row_total rows ≤ 2684313600
total-most whole rows is =
    let each = sum_by-le (row_count rows.height) 327675 rows.groups (All-all (λ group. row_count rows.height group ≤ 327675) rows.groups (λ group. row_count-most rows.height group is.height.most)) in
    let most : length rows.groups * 327675 ≤ 8192 * 327675 = mul-le-mul_right 327675 is.count in
    omega arith

-- the first row of a group, in terms of the fields of a row plan
pub first_at : (whole : ℕ) (fields rows : RowPlanData) (i : ℕ) (group : Group) → IsRowPlan whole fields → fields ≡ rows → group ≡ get_or fields.groups i group → i < length rows.groups → group.first ≡ rows_before rows i
first_at whole fields rows i group is shows same within =
    ap {A = Group} (λ g. g.first) (same ∙ ap {A = RowPlanData} (λ r. get_or r.groups i group) shows)
    ∙ first_is whole rows i group (subst {A = RowPlanData} (λ r. IsRowPlan whole r) shows is) within

-- ---- binary search

-- row n is in one of the groups in the range low..high
pub record IsBetween (rows : RowPlanData) (n low high : ℕ) : Type 0 where
  pub some : low < high
  pub within : high ≤ length rows.groups
  pub begins : rows_before rows low ≤ n
  pub ends : n < rows_before rows high

all_before : (rows : RowPlanData) → rows_before rows (length rows.groups) ≡ row_total rows
all_before rows = ap (λ gs. sum_by (row_count rows.height) gs) (take_all (length rows.groups) rows.groups (omega arith))

pub between_all : (rows : RowPlanData) (n : ℕ) → n < row_total rows → IsBetween rows n 0 (length rows.groups)
between_all rows n within =
    let end : rows_before rows (length rows.groups) ≡ row_total rows = all_before rows in
    record {
      some = elim (cases_lt 0 (length rows.groups)) [
        | inl some ↦ some
        | inr none ↦ let nothing : length rows.groups ≡ 0 = omega arith in
            let empty : rows_before rows (length rows.groups) ≡ 0 = ap (λ i. rows_before rows i) nothing in
            absurd (omega arith)
      ];
      within = omega arith;
      begins = omega arith;
      ends = omega arith;
    }

pub between_upper : (rows : RowPlanData) (n low high middle : ℕ) → IsBetween rows n low high → middle < high → rows_before rows middle ≤ n → IsBetween rows n middle high
between_upper rows n low high middle is below begins = record { some = below; within = is.within; begins = begins; ends = is.ends }

pub between_lower : (rows : RowPlanData) (n low high middle : ℕ) → IsBetween rows n low high → low < middle → middle < high → n < rows_before rows middle → IsBetween rows n low middle
between_lower rows n low high middle is above below ends = record { some = above; within = (let most = is.within in omega arith); begins = is.begins; ends = ends }

pub between_one : (rows : RowPlanData) (n low high : ℕ) → IsBetween rows n low high → high ≤ low + 1 → IsGroupAt rows n low
between_one rows n low high is one =
    let some = is.some in
    let end : high ≡ low + 1 = omega arith in
    record {
      within = (let most = is.within in omega arith);
      begins = is.begins;
      ends = subst {A = ℕ} (λ i. n < rows_before rows i) end is.ends;
    }

-- ---- a row by its number

-- facts about row n in the group with this index, which has these inks
pub record IsRowOf (rows : RowPlanData) (n index : ℕ) (group : Group) (inks : List Ink) : Type 0 where
  pub begins : group.first ≤ n
  pub y : (n - group.first) / length inks < rows.height
  pub small : (n - group.first) / length inks < 65536
  pub place : (ink : Ink) → slice_get (places_in rows) n ≡ Some (place_of index ((n - group.first) / length inks) (get_or inks ((n - group.first) % length inks) ink))

row_of_inks : (whole : ℕ) (rows : RowPlanData) (n index : ℕ) (group : Group) → IsRowPlan whole rows → IsGroupAt rows n index → group ≡ get_or rows.groups index group → IsRowOf rows n index group (inks_of group)
row_of_inks whole rows n index group is at same =
    let count = ink_count group in
    let inks : IsWithin 1 5 count = ink_count-within group in
    let least = inks.least in
    let starts = at.begins in
    let stops = at.ends in
    let first : group.first ≡ rows_before rows index = ap {A = Group} (λ g. g.first) same ∙ first_is whole rows index group is at.within in
    let more : rows_before rows (index + 1) ≡ rows_before rows index + row_count rows.height group =
    rows_before-more rows index group at.within ∙ ap {A = Group} (λ g. rows_before rows index + row_count rows.height g) (sym same) in
    let begins : group.first ≤ n = omega arith in
    let within = n - group.first in
    let above : 0 < count = omega arith in
    let whole_is : within / count * count + within % count ≡ within = omega (arith, div-add-mod within count, mul_comm (within / count) count) in
    let k : within % count < count = mod_below within count above in
    let size : within < rows.height * count = omega arith in
    let y : within / count < rows.height = (div-lt_iff_lt-mul {k = count} {x = within} {y = rows.height} above).1 size in
    let height = is.height.most in
    let number : rows_before rows index + (within / count * count + within % count) ≡ n = omega arith in
    record {
      begins = begins;
      y = y;
      small = omega arith;
      place = λ ink.
          let there = place_at rows index (within / count) (within % count) group ink at.within y (subst {A = Group} (λ g. within % count < ink_count g) same k) in
          ap (λ m. slice_get (places_in rows) m) (sym number)
          ∙ ap {A = Group} (λ g. slice_get (places_in rows) (rows_before rows index + (within / count * ink_count g + within % count))) same
          ∙ there
          ∙ ap {A = Group} (λ g. Some (place_of index (within / count) (get_or (inks_of g) (within % count) ink))) (sym same);
    }

-- the same, in terms of the fields of a row plan
pub row_is_of : (whole : ℕ) (fields rows : RowPlanData) (n index : ℕ) (group : Group) (inks : List Ink) → IsRowPlan whole fields → fields ≡ rows → IsGroupAt rows n index → group ≡ get_or fields.groups index group → inks ≡ inks_of group → IsRowOf rows n index group inks
row_is_of whole fields rows n index group inks is shows at same are =
    let P : List Ink → Type 0 = λ list. IsRowOf rows n index group list in
    subst P (sym are) (row_of_inks whole rows n index group (subst {A = RowPlanData} (λ r. IsRowPlan whole r) shows is) at
    (same ∙ ap {A = RowPlanData} (λ r. get_or r.groups index group) shows))

-- a site keeps the row exactly if its group has the site
pub keeps_is : (whole : ℕ) (fields rows : RowPlanData) (n index site : ℕ) (group : Group) → IsRowPlan whole fields → fields ≡ rows → IsGroupAt rows n index → group ≡ get_or fields.groups index group → keeps_in rows site n ≡ has_site group site
keeps_is whole fields rows n index site group is shows at stands =
    let same : group ≡ get_or rows.groups index group = stands ∙ ap {A = RowPlanData} (λ r. get_or r.groups index group) shows in
    ap (λ o. option_map_or (λ place. is_of rows.groups site place.group) o false) ((row_is_of whole fields rows n index group (inks_of group) is shows at stands refl).place K)
    ∙ ap (λ o. option_map_or (λ g. has_site g site) o false) (slice_get-get_or rows.groups index group at.within)
    ∙ ap {A = Group} (λ g. has_site g site) (sym same)
