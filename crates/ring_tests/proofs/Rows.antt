-- For the tests: the rows of two bytes, and the writer's state from a look to a publish.
use Rattle.std.proofs.Common.{◌≡◌, ◌≢◌, ℕ, ◌+◌, ◌<◌, Bool, true, false, List, [], length, get_or, set, sym, refl, ap, ◌∙◌, subst, inl, inr, arith, get_or-set_same, get_or-set_other, length-set}
use Rattle.std.specs.Prelude.{Some, None}
use Rattle.std.specs.List.{All}
use Rattle.std.proofs.lemmas.Bool.{cases_eq}
use Rattle.std.proofs.lemmas.List.{length-map}
use Rattle.std.proofs.lemmas.List.FromFn.{get_or-map-range_with_len, length-map-range_with_len}
use Rattle.std.proofs.Math.ListN
use Rattle.ring_rule.specs.declared.view.RingNumbers.{RingNumbers}
use Rattle.ring_rule.specs.declared.view.WriterView.{WriterView}
use Rattle.ring_rule.specs.Views.{left_word, cursor_in, ring_of}
use Rattle.ring_rule.specs.Kept.{row_at}
use Rattle.ring_rule.specs.Plays.{looked_at, published, filled_lane, MayPublish, MayFill}
use Rattle.ring_tests.specs.Numbered.{numbered_row, numbered_rows, IsIdleWriter, IsOffered, served}
use Rattle.ring_rule.proofs.Numbers.{cursor_some, cursor_none}
use Rattle.ring_rule.proofs.Roster.{pick_same, pick_other}

pub rows_count : (total : ℕ) → length (numbered_rows total) ≡ total
unfolding numbered_rows
rows_count total = length-map-range_with_len numbered_row 0 total

pub rows_even : (total : ℕ) → All (λ (row : List ℕ). length row ≡ 2) (numbered_rows total)
unfolding numbered_rows
rows_even total k d l =
    let e = get_or-map-range_with_len numbered_row 0 total k k d (let n = length-map-range_with_len numbered_row 0 total in omega arith) (omega arith) in
    ap length e

pub rows_at : (total n : ℕ) → n < total → get_or (numbered_rows total) n [] ≡ numbered_row n
unfolding numbered_rows
rows_at total n l = get_or-map-range_with_len numbered_row 0 total n n [] l (omega arith)

-- an offered lane may be filled
pub offered_fill : (places readers total head r cursor : ℕ) (w : WriterView) → cursor ≢ left_word → IsOffered places readers total head r cursor w → MayFill w r
offered_fill places readers total head r cursor w joined o =
    let at = o.at in
    let count = rows_count total in
    record {
      in_range = subst (λ (z : RingNumbers). r < z.readers) (sym o.ring) o.in_range;
      row = subst (λ (z : RingNumbers). w.head < z.total) (sym o.ring) (let a = o.row in omega arith);
      room = (cursor, ap cursor_in o.known ∙ cursor_some cursor joined, subst (λ (z : RingNumbers). w.head < cursor + z.places) (sym o.ring) (let a = o.room joined in omega arith));
      unfilled = o.unfilled;
    }

pub offered_row : (places readers total head r cursor : ℕ) (w : WriterView) → IsOffered places readers total head r cursor w → numbered_row head ≡ row_at w.ring w.head
offered_row places readers total head r cursor w o = sym ((λ i. row_at (o.ring i) (o.at i)) ∙ rows_at total head o.row)

-- the reader left, or its lane is filled
abbrev pub IsServed : WriterView → ℕ → Type 0
IsServed w r = (k : ℕ) → cursor_in (get_or w.known r 0) ≡ Some k → get_or w.filled r false ≡ true

served_parts : (cursor r : ℕ) (w : WriterView) (P : WriterView → Type 0) → (cursor ≡ left_word → P w) → (cursor ≢ left_word → P (filled_lane r w)) → P (served cursor r w)
served_parts cursor r w P left joined = elim (cases_eq cursor left_word) [
  | inl is ↦ subst P (sym (pick_same cursor left_word w (filled_lane r w) is)) (left is)
  | inr other ↦ subst P (sym (pick_other cursor left_word w (filled_lane r w) other)) (joined other)
]

pub served_here : (cursor r : ℕ) (w : WriterView) → r < length w.filled → get_or w.known r 0 ≡ cursor → IsServed (served cursor r w) r
served_here cursor r w l known = served_parts cursor r w (λ v. IsServed v r)
    (λ left k e. let f : None ≡ Some k = sym (cursor_none (get_or w.known r 0) (known ∙ left)) ∙ e in cc)
    (λ joined k e. get_or-set_same w.filled r true false l)

pub served_else : (cursor r q : ℕ) (w : WriterView) → q ≢ r → IsServed w q → IsServed (served cursor r w) q
served_else cursor r q w other s = served_parts cursor r w (λ v. IsServed v q) (λ left. s) (λ joined k e. get_or-set_other w.filled r q true false other ∙ s k e)

-- what a fill leaves unchanged
pub record IsSame (w v : WriterView) : Type 0 where
  pub ring : v.ring ≡ w.ring
  pub head : v.head ≡ w.head
  pub known : v.known ≡ w.known
  pub count : length v.filled ≡ length w.filled

pub served_same : (cursor r : ℕ) (w : WriterView) → IsSame w (served cursor r w)
served_same cursor r w = served_parts cursor r w (IsSame w) (λ left. record { ring = refl; head = refl; known = refl; count = refl }) (λ joined. record { ring = refl; head = refl; known = refl; count = length-set w.filled r true })

-- all readers are served, so the row may be published, and then no lane is filled
pub all_served : (places readers total head : ℕ) (w : WriterView) → w.ring ≡ ring_of places readers (numbered_rows total) 2 → w.head ≡ head → head < total → ((r : ℕ) → r < readers → IsServed w r) → MayPublish w
all_served places readers total head w ring at row each = record {
  row = subst (λ (z : RingNumbers). w.head < z.total) (sym ring) (let c = rows_count total in omega arith);
  filled = λ r k l e. each r (subst (λ (z : RingNumbers). r < z.readers) ring l) k e;
}

pub idle_after : (places readers total head : ℕ) (w : WriterView) → w.ring ≡ ring_of places readers (numbered_rows total) 2 → w.head ≡ head → length w.known ≡ readers → length w.filled ≡ readers → IsIdleWriter places readers total (head + 1) (published w)
idle_after places readers total head w ring at known filled = record {
  ring = ring;
  at = ap (λ n. n + 1) at;
  known = known;
  filled = length-map w.filled _ ∙ filled;
  empty = λ r l. ListN.get_or-map (λ (b : Bool). false) w.filled r false;
}

pub idle_looked : (places readers total head r n : ℕ) (w : WriterView) → IsIdleWriter places readers total head w → IsIdleWriter places readers total head (looked_at r n w)
idle_looked places readers total head r n w i = record { ring = i.ring; at = i.at; known = length-set w.known r n ∙ i.known; filled = i.filled; empty = i.empty }

-- from a look to a publish: the writer may publish, and its state afterwards
pub record IsDone (places readers total head : ℕ) (w : WriterView) : Type 0 where
  pub may : MayPublish w
  pub idle : IsIdleWriter places readers total (head + 1) (published w)

pub two_done : (places total head a b : ℕ) (w : WriterView) → IsIdleWriter places 2 total head w → head < total → IsDone places 2 total head (served b 1 (served a 0 (looked_at 1 b (looked_at 0 a w))))
two_done places total head a b w i row =
    let v = looked_at 1 b (looked_at 0 a w) in
    let x = served a 0 v in
    let y = served b 1 x in
    let j = idle_looked places 2 total head 1 b (looked_at 0 a w) (idle_looked places 2 total head 0 a w i) in
    let s = served_same a 0 v in
    let t = served_same b 1 x in
    let first : get_or v.known 0 0 ≡ a = get_or-set_other (set w.known 0 a) 1 0 b 0 (λ e. omega arith) ∙ get_or-set_same w.known 0 a 0 (let k = i.known in omega arith) in
    let second : get_or v.known 1 0 ≡ b = get_or-set_same (set w.known 0 a) 1 b 0 (let k = i.known in let m = length-set w.known 0 a in omega arith) in
    let here : IsServed y 0 = served_else b 1 0 x (λ e. omega arith) (served_here a 0 v (let k = i.filled in omega arith) first) in
    let there : IsServed y 1 = served_here b 1 x (let k = i.filled in let m = s.count in omega arith) (ap (λ (k : List ℕ). get_or k 1 0) s.known ∙ second) in
    record {
      may = all_served places 2 total head y (t.ring ∙ (s.ring ∙ j.ring)) (t.head ∙ (s.head ∙ j.at)) row (λ r l. elim (cases_eq r 0) [
        | inl is ↦ subst (IsServed y) (sym is) here
        | inr other ↦ let one' : 1 ≡ r = omega arith in subst (IsServed y) one' there
      ]);
      idle = idle_after places 2 total head y (t.ring ∙ (s.ring ∙ j.ring)) (t.head ∙ (s.head ∙ j.at)) (ap length t.known ∙ (ap length s.known ∙ j.known)) (t.count ∙ (s.count ∙ j.filled));
    }
