-- The plain reading of one reader's lanes stays sound, also where a row already back in its lane is read as
-- closed.
use Rattle.std.proofs.Common.{◌≡◌, ℕ, ◌<◌, ◌≤◌, cond, inl, inr, ap, sym, ◌∙◌, refl, arith}
use Rattle.std.specs.Prelude.{Option, Some, None, unwrap_or}
use Rattle.std.proofs.lemmas.Bool.{cases_lt, lt-ltb, le-ltb}
use Rattle.ring_core.specs.declared.event.Stage.{Stage}
use Rattle.ring_core.specs.declared.event.Stage.TheVariants.{Idle, Holding, Closed}
use Rattle.ring_core.specs.Schedule.{Progress, Lanes}
use Rattle.ring_core.specs.Sound.{IsSoundProgress, IsSoundLanes}
use Rattle.ring_core.specs.Plain.{plain_stage, from_low, first_row, plain_lanes}

-- a number that is not below low is kept
pub from_low_same : (low n : ℕ) → low ≤ n → from_low low (Some n) ≡ Some n
from_low_same low n h = let none : Option ℕ = None in ap (λ b. cond b none (Some n)) (le-ltb n low h)

pub from_low_none : (low n : ℕ) → n < low → from_low low (Some n) ≡ None
from_low_none low n h = let none : Option ℕ = None in ap (λ b. cond b none (Some n)) (lt-ltb n low h)

-- a number that was kept was present, and is not below low
pub from_low_is : (low n : ℕ) (o : Option ℕ) → from_low low o ≡ Some n → (o ≡ Some n) × (low ≤ n)
from_low_is low n None e = cc
from_low_is low n (Some k) e = elim (cases_lt k low) [
  | inl below ↦ let f : None ≡ Some n = sym (from_low_none low k below) ∙ e in cc
  | inr above ↦ let f : Some k ≡ Some n = sym (from_low_same low k above) ∙ e in let is : k ≡ n = cc in (f, omega arith)
]

-- reading again with a higher bound is the same as reading once with it
pub from_low_twice : (low high : ℕ) (o : Option ℕ) → low ≤ high
    → from_low high (from_low low o) ≡ from_low high o
from_low_twice low high None h = refl
from_low_twice low high (Some n) h = elim (cases_lt n low) [
  | inl below ↦ ap (from_low high) (from_low_none low n below) ∙ sym (from_low_none high n (omega arith))
  | inr above ↦ ap (from_low high) (from_low_same low n above)
]

plain_holding : (s : Stage) → plain_stage s ≡ Holding → s ≡ Holding
plain_holding Idle e = cc
plain_holding Holding e = refl
plain_holding Closed e = cc

plain_open : (s : Stage) → plain_stage s ≡ Closed → ⊥
plain_open Idle e = cc
plain_open Holding e = cc
plain_open Closed e = cc

below_head : (head : ℕ) (o : Option ℕ) → ((c : ℕ) → o ≡ Some c → c ≤ head) → unwrap_or o head ≤ head
below_head head None f = omega arith
below_head head (Some c) f = f c refl

-- only rows below head have been passed
pub first_low : (places head : ℕ) (p : Progress) → IsSoundProgress places head p
    → first_row head p.cursor ≤ head
first_low places head p h = below_head head p.cursor (λ c e. omega (arith, h.seen_ahead c e, h.seen_in))

pub plain_keeps : (places total head : ℕ) (p : Progress) (l : Lanes) → IsSoundProgress places head p
    → IsSoundLanes places total head p l → IsSoundLanes places total head p (plain_lanes head p l)
plain_keeps places total head p l h m = record {
  holding_ahead = λ c e s. m.holding_ahead c e (plain_holding l.stage s);
  closed_ahead = λ c e s. absurd (plain_open l.stage s);
  left_idle = λ e. ap plain_stage (m.left_idle e);
  room = m.room;
  lies = λ c n e low high held.
      let here : from_low (first_row head p.cursor) (l.row n) ≡ from_low c (Some n) = (λ i. from_low (unwrap_or (e i) head) (m.lies c n e low high (λ s. held (ap plain_stage s)) i)) in
      here ∙ from_low_same c n low;
  out = λ c e s. ap (from_low (first_row head p.cursor)) (m.out c e (plain_holding l.stage s));
  rows = record {
    placed = λ q n e. m.rows.placed q n (from_low_is (first_row head p.cursor) n (l.row q) e).0;
    not_ahead = λ q n e. m.rows.not_ahead q n (from_low_is (first_row head p.cursor) n (l.row q) e).0;
    newest = λ q e. m.rows.newest q (from_low_is (first_row head p.cursor) head (l.row q) e).0;
    in_total = m.rows.in_total;
    fresh = λ f. ap (from_low (first_row head p.cursor)) (m.rows.fresh f) ∙ from_low_same (first_row head p.cursor) head (first_low places head p h);
  };
}

-- a row that is back in its reader's lane, read as closed
abbrev pub unsettled : Lanes → Lanes
unsettled l = record l { stage = Closed }

pub unsettle_keeps : (places total head : ℕ) (p : Progress) (l : Lanes) (c : ℕ) → p.cursor ≡ Some c
    → c < p.seen → l.stage ≡ Idle → IsSoundLanes places total head p l
    → IsSoundLanes places total head p (unsettled l)
unsettle_keeps places total head p l c at ahead idle m = record {
  holding_ahead = λ d e s. cc;
  closed_ahead = λ d e s. let same : c ≡ d = cc in omega arith;
  left_idle = λ e. cc;
  room = m.room;
  lies = λ d n e low high held. m.lies d n e low high (λ s. cc);
  out = λ d e s. cc;
  rows = m.rows;
}
