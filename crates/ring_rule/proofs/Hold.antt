-- Consequences of the rule for lanes: numbers in slots, the readers' stages, and what the plain reading
-- leaves.
use Rattle.std.proofs.Common.{◌≡◌, ◌≢◌, ℕ, ◌%◌, ◌<◌, ◌≤◌, Bool, true, false, cond, ◌&&◌, ◌||◌, List, length, get_or, sym, refl, ap, ◌∙◌, subst, inl, inr, arith}
use Rattle.std.specs.Prelude.{Option, Some, None, nat_eq}
use Rattle.std.proofs.lemmas.Bool.{cases_eq, cases_lt, cases_Bool, lt-ltb, le-ltb, eq-eqb, ne_eqb, false≢true}
use mathlib.Core.Option.{Option as AtHome, none, some}
use Rattle.ring_core.specs.declared.event.Stage.{Stage}
use Rattle.ring_core.specs.declared.event.Stage.TheVariants.{Idle, Holding}
use Rattle.ring_core.specs.Schedule.{Progress, Lanes, lane_place}
use Rattle.ring_core.specs.Sound.{IsSoundProgress, IsSoundLanes}
use Rattle.ring_core.specs.Plain.{plain_stage, from_low, first_row, plain_lanes}
use Rattle.ring_core.proofs.Places.{apart}
use Rattle.ring_core.proofs.Readers.{lane_in}
use Rattle.ring_core.proofs.Lower.{plain_keeps}
use Rattle.ring_rule.specs.declared.lane.Lane.{Lane}
use Rattle.ring_rule.specs.declared.view.RingNumbers.{RingNumbers}
use Rattle.ring_rule.specs.declared.view.WriterView.{WriterView}
use Rattle.ring_rule.specs.declared.view.ReaderView.{ReaderView}
use Rattle.ring_rule.specs.Views.{cursor_in}
use Rattle.ring_rule.specs.Shown.{Slot, Homes, home_at, number_in, is_out, head_shown, cursor_shown, shown, counted, row_shown, is_number, stage_shown, lanes_shown, lanes_known}
use Rattle.ring_rule.specs.Kept.{Holds, Fits, is_handed, is_away, LaneIs, HoldsLanes}
use Rattle.ring_rule.proofs.Numbers.{length_up, or_true, and_false}
use Rattle.ring_rule.proofs.Slots.{counted_plain, stage_plain}

-- the index of a lane's slot is in range
pub slot_in : (g : RingNumbers) (words : List ℕ) (homes : Homes) (w : WriterView) (readers : ℕ → ReaderView) (r n : ℕ) → Holds g words w readers → HoldsLanes g words homes w readers → r < g.readers
    → lane_place g.places r n < length homes
slot_in g words homes w readers r n h m l = let a = lane_in g.places g.readers r n h.sound.some_place l in let e = m.deep in omega arith

-- the number of a buffer in its slot is at most head
number_below : (g : RingNumbers) (head : ℕ) (home : AtHome Slot) (away : Bool) (n : ℕ) → LaneIs g head home away → number_in home ≡ Some n → n ≤ head
number_below g head home true n h e = let f : None ≡ Some n = ap number_in (sym h) ∙ e in cc
number_below g head home false n h e = h.2.not_ahead n (ap number_in (sym h.1) ∙ e)

pub number_in_head : (g : RingNumbers) (words : List ℕ) (homes : Homes) (w : WriterView) (readers : ℕ → ReaderView) (r k n : ℕ) → HoldsLanes g words homes w readers → r < g.readers
    → number_in (home_at homes (lane_place g.places r k)) ≡ Some n → n ≤ head_shown words
number_in_head g words homes w readers r k n m l e =
    number_below g (head_shown words) (home_at homes (lane_place g.places r k)) (is_away g.places w readers r k) n (m.lane_is r k l) e

-- a lane that is not away is in its slot
pub at_home : (g : RingNumbers) (head : ℕ) (home : AtHome Slot) (away : Bool) → away ≡ false → LaneIs g head home away → LaneIs g head home false
at_home g head home away e h = subst (LaneIs g head home) e h

pub gone_out : (g : RingNumbers) (head : ℕ) (home : AtHome Slot) (away : Bool) → away ≡ true → LaneIs g head home away → home ≡ none
gone_out g head home away e h = subst (LaneIs g head home) e h

-- a slot that shows a number is not out
pub out_shows : (home : AtHome Slot) (head n : ℕ) (cursor : Option ℕ) → counted head cursor (number_in home) ≡ Some n → is_out home ≡ false
out_shows none head n None e = cc
out_shows none head n (Some c) e = cc
out_shows (some s) head n cursor e = refl

-- The stage that the slots show is the stage by the view

-- the stage of a reader by its view
abbrev pub stage_by : ReaderView → Stage
stage_by x = cond x.out Holding Idle

stage_is_held : (b : Bool) → cond b Holding Idle ≡ Holding → b ≡ true
stage_is_held true e = refl
stage_is_held false e = cc

pub held_stage : (x : ReaderView) → stage_by x ≡ Holding → x.out ≡ true
held_stage x e = stage_is_held x.out e

pub idle_stage : (x : ReaderView) → x.out ≡ false → stage_by x ≡ Idle
idle_stage x e = ap (λ b. cond b Holding Idle) e

-- the stage computed from the slots equals the stage by the view
same_stage : (head : ℕ) (cursor : Option ℕ) (out : ℕ → Bool) (held : Bool) → ((c : ℕ) → cursor ≡ Some c → held ≡ true → (c < head) × (out c ≡ true)) → ((c : ℕ) → cursor ≡ Some c → held ≡ false → c < head → out c ≡ false) → (cursor ≡ None → held ≡ false)
    → stage_shown head cursor out ≡ cond held Holding Idle
same_stage head None out held yes' no' left = ap (λ b. cond b Holding Idle) (sym (left refl))
same_stage head (Some c) out true yes' no' left =
    let y = yes' c refl refl in
    (λ i. cond (lt-ltb c head y.0 i && y.1 i) Holding Idle)
same_stage head (Some c) out false yes' no' left = elim (cases_lt c head) [
  | inl below ↦ λ i. cond (lt-ltb c head below i && no' c refl refl below i) Holding Idle
  | inr above ↦ λ i. cond (le-ltb c head above i && out c) Holding Idle
]

same_filled : (head : ℕ) (o : Option ℕ) (filled : Bool) → (filled ≡ true → o ≡ Some head) → (o ≡ Some head → filled ≡ true) → is_number head o ≡ filled
same_filled head None true yes' no' = let f = yes' refl in cc
same_filled head None false yes' no' = refl
same_filled head (Some n) true yes' no' = let f : Some n ≡ Some head = yes' refl in let e : n ≡ head = cc in eq-eqb n head e
same_filled head (Some n) false yes' no' = elim (cases_eq n head) [
  | inl is ↦ absurd (false≢true (no' (ap Some is)))
  | inr other ↦ ne_eqb n head other
]

module _ (g : RingNumbers) (words : List ℕ) (homes : Homes) (w : WriterView) (readers : ℕ → ReaderView) (h : Holds g words w readers) (m : HoldsLanes g words homes w readers) where
  -- a reader that left has no lane out, by its view
  left_home : (r : ℕ) → r < g.readers → cursor_shown words r ≡ None → (readers r).out ≡ false
  left_home r l e = elim (cases_Bool (readers r).out) [
    | inl out ↦
        let idle = (m.sound r l).left_idle e in
        let held : stage_by (readers r) ≡ Holding = ap (λ b. cond b Holding Idle) out in
        let f : Holding ≡ Idle = sym held ∙ idle in cc
    | inr home ↦ home
  ]

  -- the lanes that the slots show are those that the views imply
  pub lanes_agree : (r : ℕ) → r < g.readers → lanes_shown g.places words homes r ≡ lanes_known g.places words homes w readers r
  lanes_agree r l =
      let s = m.sound r l in
      let head = head_shown words in
      let p = h.sound.each r l in
      let out : ℕ → Bool = λ n. is_out (home_at homes (lane_place g.places r n)) in
      let filled = same_filled head (row_shown g.places words homes r head) (get_or w.filled r false) s.rows.fresh (s.rows.newest head) in
      let held : (c : ℕ) → cursor_shown words r ≡ Some c → (readers r).out ≡ true → (c < head) × (out c ≡ true) = λ c e o. (
      let stage : stage_by (readers r) ≡ Holding = ap (λ b. cond b Holding Idle) o in
      let ahead = s.holding_ahead c e stage in
      let seen = p.seen_in in
      let count : length (shown words w readers r).taken ≡ c = p.counted c e in
      let taken : (readers r).taken ≡ c = sym (length_up (readers r).taken) ∙ count in
      let away : is_away g.places w readers r c ≡ true =
      (λ i. is_handed g.places w r c || (o i && eq-eqb (c % g.places) ((readers r).taken % g.places) (ap (λ k. k % g.places) (sym taken)) i)) ∙ or_true (is_handed g.places w r c) in
      (omega arith, ap is_out (gone_out g head (home_at homes (lane_place g.places r c)) (is_away g.places w readers r c) away (m.lane_is r c l)))) in
      let home : (c : ℕ) → cursor_shown words r ≡ Some c → (readers r).out ≡ false → c < head → out c ≡ false = λ c e o below. (
      let lies : row_shown g.places words homes r c ≡ Some c = s.lies c c e (omega arith) below (λ st. absurd (let b : stage_by (readers r) ≡ Holding = st in let i = idle_stage (readers r) o in let f : Holding ≡ Idle = sym b ∙ i in cc)) in
      out_shows (home_at homes (lane_place g.places r c)) head c (cursor_shown words r) lies) in
      let stage = same_stage head (cursor_shown words r) out (readers r).out held home (left_home r l) in
      λ i. record { filled = filled i; stage = stage i; row = row_shown g.places words homes r }

-- Lanes by one reader's view

-- the lanes known for a reader depend on its own view alone
abbrev pub lanes_by : ℕ → List ℕ → Homes → WriterView → ReaderView → ℕ → Lanes
lanes_by places words homes w x r = record { filled = get_or w.filled r false; stage = stage_by x; row = row_shown places words homes r }

-- the plain reading leaves them unchanged
pub lanes_plain : (places : ℕ) (words : List ℕ) (homes : Homes) (w : WriterView) (x : ReaderView) (r : ℕ) (p : Progress) → p.cursor ≡ cursor_shown words r
    → lanes_by places words homes w x r ≡ plain_lanes (head_shown words) p (lanes_by places words homes w x r)
lanes_plain places words homes w x r p e =
    let head = head_shown words in
    let cursor = cursor_shown words r in
    (λ i. record { filled = get_or w.filled r false; stage = sym (stage_plain x.out) i; row = λ k. sym (counted_plain head cursor (number_in (home_at homes (lane_place places r k)))) i })
    ∙ (λ i. record { filled = get_or w.filled r false; stage = plain_stage (stage_by x); row = λ k. from_low (first_row head (sym e i)) (row_shown places words homes r k) })

-- lanes that are the plain reading of an event's effect are sound
pub sound_by : (places total head : ℕ) (p : Progress) (e l : Lanes) → IsSoundProgress places head p → IsSoundLanes places total head p e → l ≡ plain_lanes head p e → IsSoundLanes places total head p l
sound_by places total head p e l h s is = subst (λ x. IsSoundLanes places total head p x) (sym is) (plain_keeps places total head p e h s)

-- a buffer that fits, and a slot, at a later head
pub fits_later : (g : RingNumbers) (head later : ℕ) (lane : Lane) → head ≤ later → Fits g head lane → Fits g later lane
fits_later g head later lane h f = record { long = f.long; not_ahead = λ n e. omega (arith, f.not_ahead n e); row = f.row }

pub lane_later : (g : RingNumbers) (head later : ℕ) (home : AtHome Slot) (away : Bool) → head ≤ later → LaneIs g head home away → LaneIs g later home away
lane_later g head later home true h l = l
lane_later g head later home false h l = (l.0, l.1, fits_later g head later l.0 h l.2)

module _ (g : RingNumbers) (words : List ℕ) (homes : Homes) (w : WriterView) (readers : ℕ → ReaderView) (h : Holds g words w readers) (m : HoldsLanes g words homes w readers) where
  -- the writer does not hold the lane of a published row that a joined reader has not passed
  pub not_handed : (r c : ℕ) → r < g.readers → cursor_shown words r ≡ Some c → c < head_shown words → is_handed g.places w r c ≡ false
  not_handed r c l e below = by_hand w.hand refl
    where
      from_hand : (q : ℕ) → w.hand ≡ Some q → q ≡ r → c % g.places ≢ w.head % g.places
      from_hand q at same =
          let f = m.hand_fits q at in
          let p = h.sound.each r l in
          let j = p.joined_known c e in
          let k : f.from ≡ j.0 = let a : cursor_in (get_or w.known r 0) ≡ Some f.from = ap (λ i. cursor_in (get_or w.known i 0)) (sym same) ∙ f.known in let b = j.1 in cc in
          let room = f.room in
          let reached = j.2 in
          let head = h.head_is in
          apart g.places c w.head (omega arith) (omega arith)

      by_hand : (o : Option ℕ) → w.hand ≡ o → is_number r o && nat_eq (c % g.places) (w.head % g.places) ≡ false
      by_hand None at = refl
      by_hand (Some q) at = elim (cases_eq q r) [
        | inl same ↦ (λ i. nat_eq q r && ne_eqb (c % g.places) (w.head % g.places) (from_hand q at same) i) ∙ and_false (nat_eq q r)
        | inr other ↦ λ i. ne_eqb q r other i && nat_eq (c % g.places) (w.head % g.places)
      ]
