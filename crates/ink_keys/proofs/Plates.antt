-- The counts of a plate after all rows of its edition were counted.
use Rattle.std.proofs.Common.{◌≡◌, ℕ, zero, suc, ◌+◌, ◌-◌, ◌*◌, ◌<◌, ◌≤◌, List, [], ◌∷◌, length, map, get_or, replicate, Some, refl, sym, ap, ◌∙◌, arith, inl, inr}
use Rattle.std.specs.Prelude.{slice_get, sum_by}
use Rattle.std.specs.List.{range_with_len}
use Rattle.std.proofs.lemmas.Bool.{cases_lt}
use Rattle.std.proofs.lemmas.List.{get_or-map, get_or-replicate, get_or_past, length-replicate}
use Rattle.std.proofs.lemmas.List.Sums.{sum_by-cons}
use Rattle.std.proofs.lemmas.Option.{same_Some, slice_get-get_or, slice_get_within}
use Rattle.pr_base.specs.declared.ink.Ink.{Ink}
use Rattle.pr_base.specs.declared.ink.Ink.TheVariants.{K}
use Rattle.plan_json.specs.Data.{PlanData, plate_height, plate_width}
use Rattle.plan_json.specs.Plan.{IsPlan}
use Rattle.pr_base.specs.Ink.{slot_of}
use Rattle.pr_base.proofs.Inks.{slot_below, slot_tells}
use Rattle.plan_rows.specs.declared.group.Group.{Group}
use Rattle.plan_rows.specs.declared.place.RowPlace.{RowPlace}
use Rattle.plan_rows.specs.Groups.{groups_of}
use Rattle.plan_rows.specs.Inks.{ink_count, ink_place}
use Rattle.plan_rows.specs.Rows.{place_of, row_number, row_places, rows_of}
use Rattle.plan_rows.proofs.Places.{IsRowAt, row_found, row_placed}
use Rattle.ring_rule.specs.declared.view.RingNumbers.{RingNumbers}
use Rattle.tif_packbits.specs.Frame.{framed_row}
use Rattle.ink_keys.specs.Keys.{key_dots}
use Rattle.ink_keys.specs.Counts.{CountsData, IsBounded, no_counts, row_adds}
use Rattle.ink_keys.specs.Turn.{row_part}
use Rattle.ink_keys.specs.Plates.{AreKeyCounts, CountsPlan}
use Rattle.ink_keys.proofs.Adding.{adds-none, adds-own}
use Rattle.ink_keys.proofs.Ranges.{sum-moved, sum-none, sum-parts, sum-same}
use Rattle.ink_keys.proofs.Turning.{part-is}

-- ---- sums

sum_by-map : {X Y : Type 0} (f : Y → ℕ) (g : X → Y) (xs : List X) → sum_by f (map g xs) ≡ sum_by (λ x. f (g x)) xs
sum_by-map f g [] = refl
sum_by-map f g (x ∷ xs) = sum_by-cons f (g x) (map g xs) ∙ ap (λ n. f (g x) + n) (sum_by-map f g xs) ∙ sym (sum_by-cons (λ y. f (g y)) x xs)

past-first : (c a h x y : ℕ) → a < x → ((z : ℕ) → z < h → x ≡ a + c + z * c → ⊥) → y < suc h → x ≡ a + y * c → ⊥
past-first c a h x zero above other less is = omega arith
past-first c a h x (suc y) above other less is = other y (omega arith) (omega arith)

-- a sum over numbers where only those at equal steps contribute
pub sum-steps : (f : ℕ → ℕ) (c low a h n : ℕ) → 0 < c → low ≤ a → ((y : ℕ) → y < h → a + y * c < low + n)
    → ((x : ℕ) → low ≤ x → x < low + n → ((y : ℕ) → y < h → x ≡ a + y * c → ⊥) → f x ≡ 0)
    → sum_by f (range_with_len low n) ≡ sum_by (λ y. f (a + y * c)) (range_with_len 0 h)
sum-steps f c low a zero n some order inside none = sum-none f low n (λ x from below. none x from below (λ y less is. absurd (omega arith)))
sum-steps f c low a (suc h) n some order inside none =
    let here : a + 0 * c < low + n = inside 0 (omega arith) in
    let parts : a - low + suc (n - (a - low) - 1) ≡ n = omega arith in
    let at : low + (a - low) ≡ a = omega arith in
    let whole : sum_by f (range_with_len low n) ≡ sum_by f (range_with_len low (a - low)) + sum_by f (range_with_len a (suc (n - (a - low) - 1))) =
    ap (λ k. sum_by f (range_with_len low k)) (sym parts) ∙ sum-parts f low (a - low) (suc (n - (a - low) - 1))
    ∙ ap (λ k. sum_by f (range_with_len low (a - low)) + sum_by f (range_with_len k (suc (n - (a - low) - 1)))) at in
    let front = sum-none f low (a - low) (λ x from below. none x from (omega arith) (λ y less is. absurd (omega arith))) in
    let one = sum_by-cons f a (range_with_len (a + 1) (n - (a - low) - 1)) in
    let rest =
    sum-steps f c (a + 1) (a + c) h (n - (a - low) - 1) some (omega arith)
    (λ y less. let there : a + suc y * c < low + n = inside (suc y) (omega arith) in omega arith)
    (λ x from below other. none x (omega arith) (omega arith) (λ y. past-first c a h x y (omega arith) other)) in
    let first : f (a + 0 * c) ≡ f a = ap f (let e : a + 0 * c ≡ a = omega arith in e) in
    let steps = sum_by-cons (λ y. f (a + y * c)) 0 (range_with_len 1 h) in
    let moved =
    sum-moved (λ y. f (a + c + y * c)) (λ y. f (a + y * c)) 0 1 1 h refl
    (λ y from below. ap f (let e : a + c + y * c ≡ a + (y + 1) * c = omega arith in e)) in
    omega arith

-- ---- zeros

zero-at : (n i : ℕ) → ◌≡◌ {A = ℕ} (get_or (replicate n 0) i 0) 0
zero-at n i =
    elim (cases_lt i n) [
      | inl within ↦ get_or-replicate n i 0 0 within
      | inr past ↦ get_or_past (replicate n 0) i 0 (omega (arith, length-replicate {A = ℕ} n 0))
    ]

-- initial counts are bounded by zero rows
pub bounded-first : (groups width keys : ℕ) → IsBounded (no_counts groups width keys) 0
bounded-first groups width keys = λ place. (let none = zero-at (groups * 5 * keys) place in omega arith)

-- ---- the rows of a plate

-- the contribution of a row, by its place
part-at : (plan : PlanData) (ring : RingNumbers) (width keys index : ℕ) (ink : Ink) (k n : ℕ) (place : RowPlace) → length ring.rows ≡ length (row_places plan)
    → slice_get (row_places plan) n ≡ Some place
    → row_part (rows_of plan) ring width keys index ink k n ≡ row_adds width keys place.group place.ink (framed_row (get_or ring.rows n [])) index ink k
part-at plan ring width keys index ink k n place count there =
    let within = slice_get_within (row_places plan) n place there in
    part-is (rows_of plan) ring width keys index ink k n place (get_or ring.rows n []) there (slice_get-get_or ring.rows n [] (omega arith))

-- a row of the plate adds its own dots
own-part : (plan : PlanData) (ring : RingNumbers) (width keys index : ℕ) (group : Group) (y : ℕ) (ink : Ink) (k : ℕ) → IsPlan plan → length ring.rows ≡ length (row_places plan)
    → IsRowAt plan (row_number group y ink) index group y ink
    → row_part (rows_of plan) ring width keys index ink k (row_number group y ink) ≡ key_dots width keys (get_or (map framed_row ring.rows) (row_number group y ink) []) k
own-part plan ring width keys index group y ink k is count at =
    let n = row_number group y ink in
    let there = row_placed plan n index group y ink is at in
    let within = slice_get_within (row_places plan) n (place_of index y ink) there in
    part-at plan ring width keys index ink k n (place_of index y ink) count there
    ∙ adds-own width keys index ink (framed_row (get_or ring.rows n [])) index ink k refl refl
    ∙ ap (λ row. key_dots width keys row k) (sym (get_or-map framed_row ring.rows n [] [] (omega arith)))

-- every other row contributes nothing
other-part : (plan : PlanData) (ring : RingNumbers) (width keys index : ℕ) (group : Group) (ink : Ink) (k n : ℕ) → IsPlan plan → length ring.rows ≡ length (row_places plan)
    → slice_get (groups_of plan) index ≡ Some group → n < length (row_places plan) → ((y : ℕ) → y < plate_height plan → n ≡ row_number group y ink → ⊥)
    → row_part (rows_of plan) ring width keys index ink k n ≡ 0
other-part plan ring width keys index group ink k n is count of within other =
    let place : RowPlace = get_or (row_places plan) n (place_of 0 0 K) in
    let there : slice_get (row_places plan) n ≡ Some place = slice_get-get_or (row_places plan) n (place_of 0 0 K) within in
    let found = row_found plan n place is there in
    part-at plan ring width keys index ink k n place count there
    ∙ adds-none width keys place.group place.ink (framed_row (get_or ring.rows n [])) index ink k
    (λ same. apart plan index group ink n place.group place.y found.0 place.ink of found.1 other same)
  where
    apart : (plan : PlanData) (index : ℕ) (group : Group) (ink : Ink) (n index' y : ℕ) (group' : Group) (ink' : Ink) → slice_get (groups_of plan) index ≡ Some group
        → IsRowAt plan n index' group' y ink' → ((z : ℕ) → z < plate_height plan → n ≡ row_number group z ink → ⊥) → index' * 5 + slot_of ink' ≡ index * 5 + slot_of ink → ⊥
    apart plan index group ink n index' y group' ink' of at other same =
        let one = slot_below ink in
        let two = slot_below ink' in
        let of' = at.of in
        let inks : ink' ≡ ink = slot_tells ink' ink (omega arith) in
        let indexes : index' ≡ index = omega arith in
        let groups : group' ≡ group = same_Some group' group (sym of' ∙ ap (slice_get (groups_of plan)) indexes ∙ of) in
        other y at.top (at.number ∙ ap {A = Group} (λ g. row_number g y ink') groups ∙ ap {A = Ink} (λ i. row_number group y i) inks)

-- ---- all rows

pub plates-are : (plan : PlanData) (ring : RingNumbers) (counts : CountsData) → CountsPlan plan ring counts → AreKeyCounts plan (map framed_row ring.rows) counts
plates-are plan ring counts whole index group ink k of printed less =
    let width = plate_width plan in
    let keys = counts.keys in
    let rows = map framed_row ring.rows in
    let is = whole.is_plan in
    let total = whole.total in
    let passed = whole.rows.count in
    let count : length ring.rows ≡ length (row_places plan) = passed ∙ total in
    let part : ℕ → ℕ = row_part (rows_of plan) ring width keys index ink k in
    let a = group.first + ink_place group ink in
    let some : 0 < ink_count group = (let place = printed.1 in omega arith) in
    let own : (y : ℕ) → y < plate_height plan → IsRowAt plan (row_number group y ink) index group y ink =
    λ y top. record { of = of; top = top; printed = printed; number = refl } in
    let at : (y : ℕ) → a + y * ink_count group ≡ row_number group y ink = λ y. omega arith in
    let inside : (y : ℕ) → y < plate_height plan → a + y * ink_count group < 0 + ring.total =
    λ y top. (let there = slice_get_within (row_places plan) (row_number group y ink) (place_of index y ink) (row_placed plan (row_number group y ink) index group y ink is (own y top)) in
    let e = at y in
    omega arith) in
    let none : (x : ℕ) → 0 ≤ x → x < 0 + ring.total → ((y : ℕ) → y < plate_height plan → x ≡ a + y * ink_count group → ⊥) → part x ≡ 0 =
    λ x from below other. other-part plan ring width keys index group ink k x is count of (omega arith) (λ y top same. other y top (same ∙ sym (at y))) in
    let sums = sum-steps part (ink_count group) 0 a (plate_height plan) ring.total some (omega arith) inside none in
    let each =
    sum-same (λ y. part (a + y * ink_count group)) (λ y. key_dots width keys (get_or rows (row_number group y ink) []) k) 0 (plate_height plan)
    (λ y from top. ap part (at y) ∙ own-part plan ring width keys index group y ink k is count (own y (omega arith))) in
    let mapped =
    sum_by-map (λ row. key_dots width keys row k) (λ y. get_or rows (row_number group y ink) []) (range_with_len 0 (plate_height plan)) in
    let grown = whole.counted.each index ink k less in
    let zeros = zero-at (length (groups_of plan) * 5 * keys) ((index * 5 + slot_of ink) * keys + k) in
    let all : sum_by part (range_with_len 0 (ring.total - 0)) ≡ sum_by part (range_with_len 0 ring.total) =
    ap (λ m. sum_by part (range_with_len 0 m)) (let e : ring.total - 0 ≡ ring.total = omega arith in e) in
    grown ∙ ap (λ m. m + sum_by part (range_with_len 0 (ring.total - 0))) zeros ∙ (let e : 0 + sum_by part (range_with_len 0 (ring.total - 0)) ≡ sum_by part (range_with_len 0 (ring.total - 0)) = omega arith in e)
    ∙ all ∙ sums ∙ each ∙ sym mapped
