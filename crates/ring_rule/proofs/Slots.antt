-- Slots by reader and row number, and what they show: after a slot changes, and under the plain reading.
use Rattle.std.proofs.Common.{◌≡◌, ◌≢◌, ℕ, zero, suc, ◌+◌, ◌*◌, ◌%◌, ◌<◌, ◌≤◌, ◌⊎◌, Bool, true, false, cond, List, [], ◌∷◌, length, get_or, set, sym, refl, ap, ◌∙◌, inl, inr, arith, get_or-set_same, get_or-set_other}
use Rattle.std.specs.Prelude.{Option, Some, None}
use Rattle.std.proofs.lemmas.Bool.{cases_eq}
use mathlib.Core.Option.{Option as AtHome, none, some}
use lib.ListN.{get_elem?}
use Rattle.std.proofs.Math.Nat.{mod-mod}
use Rattle.ring_core.specs.declared.event.Stage.TheVariants.{Idle, Holding}
use Rattle.ring_core.specs.Schedule.{lane_place}
use Rattle.ring_core.proofs.Changes.{put_row}
use Rattle.ring_core.specs.Plain.{plain_stage, from_low, first_row}
use Rattle.ring_core.proofs.Readers.{lanes_apart}
use Rattle.ring_core.proofs.Places.{put_same, put_other}
use Rattle.ring_core.proofs.Lower.{from_low_same, from_low_none, from_low_twice}
use Rattle.ring_rule.specs.Shown.{Slot, Homes, home_at, number_in, only, counted}
use Rattle.ring_rule.proofs.Roster.{pick_same, pick_other}

-- the lookup at an index returns the element there
pub found_at : {A : Type 0} (l : List A) (i : ℕ) (d a : A) → i < length l → get_or l i d ≡ a → get_elem? l i ≡ some a
found_at [] i d a h e = absurd (omega arith)
found_at (x ∷ xs) zero d a h e = ap some e
found_at (x ∷ xs) (suc i) d a h e = found_at xs i d a (omega arith) e

-- two lanes are the same; otherwise they differ in reader or in place
pub record IsOneLane (places r m q k : ℕ) : Type 0 where
  pub reader : q ≡ r
  pub place : k % places ≡ m % places

pub cases_lane : (places r m q k : ℕ) → IsOneLane places r m q k ⊎ ((q ≢ r) ⊎ ((q ≡ r) × (k % places ≢ m % places)))
cases_lane places r m q k = elim (cases_eq q r) [
  | inl same ↦ elim (cases_eq (k % places) (m % places)) [
    | inl place ↦ inl record { reader = same; place = place }
    | inr apart ↦ inr (inr (same, apart))
  ]
  | inr other ↦ inr (inl other)
]

module _ (places r m : ℕ) (homes : Homes) (v : AtHome Slot) where
  -- the slot that was written
  pub home_same : (q k : ℕ) → lane_place places r m < length homes → IsOneLane places r m q k → home_at (set homes (lane_place places r m) v) (lane_place places q k) ≡ v
  home_same q k h e = (λ i. get_or (set homes (lane_place places r m) v) ((e.reader i) * places + (e.place i)) none) ∙ get_or-set_same homes (lane_place places r m) v none h

  pub home_else : (q k : ℕ) → 0 < places → q ≢ r → home_at (set homes (lane_place places r m) v) (lane_place places q k) ≡ home_at homes (lane_place places q k)
  home_else q k some' n = get_or-set_other homes (lane_place places r m) (lane_place places q k) v none (lanes_apart places q r (k % places) (m % places) (omega (arith, some')) (omega (arith, some')) n)

  pub home_apart : (q k : ℕ) → q ≡ r → k % places ≢ m % places → home_at (set homes (lane_place places r m) v) (lane_place places q k) ≡ home_at homes (lane_place places q k)
  home_apart q k e n = get_or-set_other homes (lane_place places r m) (lane_place places q k) v none
      (λ x. n (let a : ℕ = r * places in let b : ℕ = k % places in let c : ℕ = m % places in let y : q * places ≡ a = ap (λ j. j * places) e in let x' : q * places + b ≡ a + c = x in let z : b ≡ c = omega arith in z))

-- A number that counts

pub only_same : (head n : ℕ) → n ≡ head → only head (Some n) ≡ Some n
only_same head n e = let miss : Option ℕ = None in pick_same n head (Some n) miss e

pub only_none : (head n : ℕ) → n ≢ head → only head (Some n) ≡ None
only_none head n e = let miss : Option ℕ = None in pick_other n head (Some n) miss e

pub only_is : (head n : ℕ) (o : Option ℕ) → only head o ≡ Some n → n ≡ head
only_is head n None e = cc
only_is head n (Some q) e = elim (cases_eq q head) [
  | inl is ↦ let f : Some q ≡ Some n = sym (only_same head q is) ∙ e in let same : q ≡ n = cc in sym same ∙ is
  | inr other ↦ let f : None ≡ Some n = sym (only_none head q other) ∙ e in cc
]

-- the plain reading keeps the numbers that count
pub counted_plain : (head : ℕ) (cursor number : Option ℕ) → from_low (first_row head cursor) (counted head cursor number) ≡ counted head cursor number
counted_plain head None None = refl
counted_plain head None (Some n) = elim (cases_eq n head) [
  | inl is ↦
      let e = only_same head n is in
      ap (from_low head) e ∙ (from_low_same head n (omega arith) ∙ sym e)
  | inr other ↦
      let e = only_none head n other in
      ap (from_low head) e ∙ sym e
]
counted_plain head (Some c) number = from_low_twice c c number (omega arith)

-- once its reader advanced or left, a number counts if it counted before and is not below the new bound
pub counted_on : (head c : ℕ) (number : Option ℕ) → from_low (c + 1) (counted head (Some c) number) ≡ counted head (Some (c + 1)) number
counted_on head c number = from_low_twice c (c + 1) number (omega arith)

pub counted_left : (head c : ℕ) (number : Option ℕ) → c ≤ head → ((n : ℕ) → number ≡ Some n → n ≤ head) → from_low head (counted head (Some c) number) ≡ counted head None number
counted_left head c None h in_head = refl
counted_left head c (Some n) h in_head = from_low_twice c head (Some n) h ∙ elim (cases_eq n head) [
  | inl is ↦ from_low_same head n (omega arith) ∙ sym (only_same head n is)
  | inr other ↦ from_low_none head n (let l = in_head n refl in omega arith) ∙ sym (only_none head n other)
]

-- the same once head has grown
pub counted_next : (head : ℕ) (cursor number : Option ℕ) → ((n : ℕ) → number ≡ Some n → n ≤ head) → from_low (first_row (head + 1) cursor) (counted head cursor number) ≡ counted (head + 1) cursor number
counted_next head None None in_head = refl
counted_next head None (Some n) in_head = elim (cases_eq n head) [
  | inl is ↦ ap (from_low (head + 1)) (only_same head n is) ∙ (from_low_none (head + 1) n (omega arith) ∙ sym (only_none (head + 1) n (λ e. omega arith)))
  | inr other ↦ ap (from_low (head + 1)) (only_none head n other) ∙ sym (only_none (head + 1) n (λ e. let l = in_head n refl in omega arith))
]
counted_next head (Some c) number in_head = from_low_twice c c number (omega arith)

-- row head counts unless the cursor is above it, and the row at a cursor counts
pub counted_head : (head : ℕ) (cursor : Option ℕ) → ((c : ℕ) → cursor ≡ Some c → c ≤ head) → counted head cursor (Some head) ≡ Some head
counted_head head None h = only_same head head refl
counted_head head (Some c) h = from_low_same c head (h c refl)

pub counted_here : (head : ℕ) (cursor : Option ℕ) (c : ℕ) → cursor ≡ Some c → counted head cursor (Some c) ≡ Some c
counted_here head cursor c e = ap (λ o. counted head o (Some c)) e ∙ from_low_same c c (omega arith)

-- an empty lane has no number that counts
pub counted_none : (head : ℕ) (cursor : Option ℕ) → counted head cursor None ≡ None
counted_none head None = refl
counted_none head (Some c) = refl

-- the plain reading leaves a stage by the views unchanged
pub stage_plain : (b : Bool) → plain_stage (cond b Holding Idle) ≡ cond b Holding Idle
stage_plain true = refl
stage_plain false = refl

-- the row at each place after one slot of a reader changed
pub row_put : (places r m head : ℕ) (cursor : Option ℕ) (homes : Homes) (v : AtHome Slot) (o : Option ℕ) (k : ℕ) → lane_place places r m < length homes → counted head cursor (number_in v) ≡ o
    → counted head cursor (number_in (home_at (set homes (lane_place places r m) v) (lane_place places r k))) ≡ put_row places m o (λ j. counted head cursor (number_in (home_at homes (lane_place places r j)))) k
row_put places r m head cursor homes v o k h e =
    let row : ℕ → Option ℕ = λ j. counted head cursor (number_in (home_at homes (lane_place places r j))) in
    elim (cases_eq (k % places) (m % places)) [
      | inl same ↦ ap (λ x. counted head cursor (number_in x)) (home_same places r m homes v r k h record { reader = refl; place = same }) ∙ (e ∙ sym (put_same places m o row k same))
      | inr apart ↦ ap (λ x. counted head cursor (number_in x)) (home_apart places r m homes v r k refl apart) ∙ sym (put_other places m o row k apart)
    ]

-- the row shown for a lane depends on the place alone
pub shown_by_place : (places r head : ℕ) (cursor : Option ℕ) (homes : Homes) (k : ℕ)
    → counted head cursor (number_in (home_at homes (lane_place places r (k % places)))) ≡ counted head cursor (number_in (home_at homes (lane_place places r k)))
shown_by_place places r head cursor homes k = ap (λ j. counted head cursor (number_in (home_at homes (r * places + j)))) (mod-mod k places)
