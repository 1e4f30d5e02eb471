-- The rows of one plate, from the top: their numbers, and how many of them are below a number.
use Rattle.std.proofs.Common.{◌≡◌, ◌≢◌, ◌↔◌, ℕ, zero, suc, ◌+◌, ◌-◌, ◌*◌, ◌<◌, ◌≤◌, Bool, true, false, List, ◌∷◌, cond, add-zero, Some, refl, ap, sym, ◌∙◌, inl, inr, arith}
use Rattle.std.specs.Prelude.{Contains, count_by, nat_lt, slice_get}
use Rattle.std.specs.List.{range_with_len}
use Rattle.std.proofs.lemmas.Bool.{cases_lt, lt-ltb, le-ltb}
use Rattle.std.proofs.lemmas.List.Sums.{sum_by-cons}
use Rattle.std.proofs.Math.Nat.{mul-le-mul_right}
use Rattle.pr_base.specs.declared.ink.Ink.{Ink}
use Rattle.plan_json.specs.Data.{PlanData, plate_height}
use Rattle.plan_json.specs.Plan.{IsPlan}
use Rattle.plan_rows.specs.declared.group.Group.{Group}
use Rattle.plan_rows.specs.Inks.{inks_of, ink_count}
use Rattle.plan_rows.specs.Groups.{groups_of}
use Rattle.plan_rows.specs.Rows.{row_number}
use Rattle.plan_rows.specs.Plates.{PlateOf, last_row}
use Rattle.plan_rows.proofs.RowLemmas.{ink_count-within}
use Rattle.plan_rows.proofs.Places.{IsRowAt, row_unique}

-- how many rows of a plate have a number below n
abbrev pub rows_held : PlanData → ℕ → PlateOf → ℕ
rows_held plan n plate =
    count_by (λ y. nat_lt (row_number plate.0 y plate.1) n) (range_with_len 0 (plate_height plan))

-- the number of a plate's next row is larger by the number of the group's inks
pub next_row : (group : Group) (y : ℕ) (ink : Ink) → row_number group (y + 1) ink ≡ row_number group y ink + ink_count group
next_row group y ink = omega arith

-- the numbers of a plate's rows ascend from the top
pub row_number-lt : (group : Group) (y z : ℕ) (ink : Ink) → y < z → row_number group y ink < row_number group z ink
row_number-lt group y z ink above =
    let least = (ink_count-within group).least in
    let next : y + 1 ≤ z = omega arith in
    let more : (y + 1) * ink_count group ≤ z * ink_count group = mul-le-mul_right (ink_count group) next in
    omega arith

pub row_number-le : (group : Group) (y z : ℕ) (ink : Ink) → y ≤ z → row_number group y ink ≤ row_number group z ink
row_number-le group y z ink above =
    let more : y * ink_count group ≤ z * ink_count group = mul-le-mul_right (ink_count group) above in
    omega arith

-- row n is the first of its plate exactly if y is 0
pub begins_plate : (plan : PlanData) (n index : ℕ) (group : Group) (y : ℕ) (ink : Ink) → IsRowAt plan n index group y ink → (n ≡ row_number group 0 ink) ↔ (y ≡ 0)
begins_plate plan n index group y ink at = (
  λ first. elim (cases_lt 0 y) [
    | inl above ↦ (let later = row_number-lt group 0 y ink above in let number = at.number in absurd (omega arith))
    | inr top ↦ omega arith
  ],
  λ top. at.number ∙ ap (λ z. row_number group z ink) top,
)

-- and the last of its plate exactly if y is the last row
pub ends_plate : (plan : PlanData) (n index : ℕ) (group : Group) (y : ℕ) (ink : Ink) → IsRowAt plan n index group y ink → (n ≡ last_row plan (group, ink)) ↔ (y + 1 ≡ plate_height plan)
ends_plate plan n index group y ink at =
    let top = at.top in
    let number = at.number in (
      λ last. elim (cases_lt y (plate_height plan - 1)) [
        | inl above ↦ (let later = row_number-lt group y (plate_height plan - 1) ink above in absurd (omega arith))
        | inr bottom ↦ omega arith
      ],
      λ bottom. number ∙ ap (λ z. row_number group z ink) (omega arith),
    )

-- ---- the rows of a plate below a number

pub count_by-cons : {X : Type 0} (p : X → Bool) (x : X) (xs : List X) → count_by p (x ∷ xs) ≡ cond (p x) 1 0 + count_by p xs
count_by-cons p x xs = sum_by-cons (λ y. cond (p y) 1 0) x xs

count_first : (p : ℕ → Bool) (from n c : ℕ) → c ≤ n → ((k : ℕ) → k < c → p (from + k) ≡ true) → ((k : ℕ) → c ≤ k → k < n → p (from + k) ≡ false) → count_by p (range_with_len from n) ≡ c
count_first p from zero c few passes fails = omega arith
count_first p from (suc n) zero few passes fails =
    let here : p from ≡ false = ap p (sym (add-zero from)) ∙ fails 0 (omega arith) (omega arith) in
    let rest = count_first p (from + 1) n 0 (omega arith) (λ k none. absurd (omega arith))
    (λ k _ high. ap p (omega arith) ∙ fails (suc k) (omega arith) (omega arith)) in
    count_by-cons p from (range_with_len (from + 1) n) ∙ ap (λ b. cond b 1 0 + count_by p (range_with_len (from + 1) n)) here ∙ omega arith
count_first p from (suc n) (suc c) few passes fails =
    let here : p from ≡ true = ap p (sym (add-zero from)) ∙ passes 0 (omega arith) in
    let rest = count_first p (from + 1) n c (omega arith) (λ k low. ap p (omega arith) ∙ passes (suc k) (omega arith))
    (λ k low high. ap p (omega arith) ∙ fails (suc k) (omega arith) (omega arith)) in
    count_by-cons p from (range_with_len (from + 1) n) ∙ ap (λ b. cond b 1 0 + count_by p (range_with_len (from + 1) n)) here ∙ omega arith

count_same : (p q : ℕ → Bool) (from n : ℕ) → ((k : ℕ) → from ≤ k → k < from + n → p k ≡ q k) → count_by p (range_with_len from n) ≡ count_by q (range_with_len from n)
count_same p q from zero same = refl
count_same p q from (suc n) same =
    count_by-cons p from (range_with_len (from + 1) n)
    ∙ ap (λ b. cond b 1 0 + count_by p (range_with_len (from + 1) n)) (same from (omega arith) (omega arith))
    ∙ ap (λ m. cond (q from) 1 0 + m) (count_same p q (from + 1) n (λ k low high. same k (omega arith) (omega arith)))
    ∙ sym (count_by-cons q from (range_with_len (from + 1) n))

-- below the number of its row y, a plate has the y rows 0 to y - 1
pub held_before : (plan : PlanData) (group : Group) (y : ℕ) (ink : Ink) → y ≤ plate_height plan → rows_held plan (row_number group y ink) (group, ink) ≡ y
held_before plan group y ink within =
    count_first (λ z. nat_lt (row_number group z ink) (row_number group y ink)) 0 (plate_height plan) y within
    (λ k below. lt-ltb _ _ (row_number-lt group (0 + k) y ink (omega arith)))
    (λ k from _. le-ltb _ _ (row_number-le group y (0 + k) ink (omega arith)))

-- with that row, it has one more
pub held_with : (plan : PlanData) (group : Group) (y : ℕ) (ink : Ink) → y < plate_height plan → rows_held plan (row_number group y ink + 1) (group, ink) ≡ y + 1
held_with plan group y ink within =
    count_first (λ z. nat_lt (row_number group z ink) (row_number group y ink + 1)) 0 (plate_height plan) (y + 1) (omega arith)
    (λ k below. lt-ltb _ _ (let up = row_number-le group (0 + k) y ink (omega arith) in omega arith))
    (λ k from _. le-ltb _ _ (let up = row_number-lt group y (0 + k) ink (omega arith) in omega arith))

pub below_next : (a b : ℕ) → a ≢ b → nat_lt a (b + 1) ≡ nat_lt a b
below_next a b other = elim (cases_lt a b) [
  | inl below ↦ lt-ltb a (b + 1) (omega arith) ∙ sym (lt-ltb a b below)
  | inr above ↦ le-ltb a (b + 1) (let strict : a ≡ b → ⊥ = other in omega arith) ∙ sym (le-ltb a b above)
]

-- a row of another plate changes no count
pub held_other : (plan : PlanData) (n : ℕ) (group : Group) (ink : Ink) → ((z : ℕ) → z < plate_height plan → row_number group z ink ≢ n) → rows_held plan (n + 1) (group, ink) ≡ rows_held plan n (group, ink)
held_other plan n group ink apart =
    count_same (λ z. nat_lt (row_number group z ink) (n + 1)) (λ z. nat_lt (row_number group z ink) n) 0 (plate_height plan)
    (λ z _ high. below_next (row_number group z ink) n (apart z (omega arith)))

-- two plates of the plan share no row
pub plates_apart : (plan : PlanData) (n index other_index : ℕ) (group other : Group) (y : ℕ) (ink other_ink : Ink) → IsPlan plan
    → IsRowAt plan n index group y ink → slice_get (groups_of plan) other_index ≡ Some other → Contains (inks_of other) other_ink
    → ((index ≡ other_index) × (ink ≡ other_ink) → ⊥) → (z : ℕ) → z < plate_height plan → row_number other z other_ink ≢ n
plates_apart plan n index other_index group other y ink other_ink is at of printed apart z within same =
    let both = row_unique plan n index other_index group other y z ink other_ink is at (record { of = of; top = within; printed = printed; number = sym same }) in
    apart (both.same_group, both.same_ink)
