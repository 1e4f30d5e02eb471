-- What the writer learns from loading a cursor.
use Rattle.std.proofs.Common.{◌≡◌, ◌≢◌, ℕ, List, ◌+◌, ◌<◌, ◌≤◌, ◌⊎◌, length, get_or, set, sym, ap, ◌∙◌, subst, inl, inr, arith, get_or-set_same}
use Rattle.std.specs.Prelude.{Some, None}
use Rattle.ring_rule.specs.Views.{left_word, cursor_in}
use Rattle.ring_rule.proofs.Numbers.{cursor_some, cursor_none, cursor_is_word}
use Rattle.ring_rule.specs.Marks.{WriterMark}
use Rattle.ring_lanes.specs.declared.numbers.Numbers.{Numbers}
use Rattle.ring_lanes.specs.Writer.{WriterState, IsLoaded, IsWriter, cursor_known, writer_state}

-- the writer found n in the cursor word of reader r
abbrev pub looked : ℕ → ℕ → WriterState → WriterState
looked r n w = record w { known = set w.known r n; loads = set w.loads r (get_or w.loads r 0 + 1) }

-- a cursor word that a load may find after the known word old: that of a reader that left, or one from old to
-- head
abbrev pub IsFound : ℕ → ℕ → ℕ → Type 0
IsFound old head n = (n ≡ left_word) ⊎ ((old ≤ n) × (n ≤ head))

-- a word that shows a cursor is not left_word, and neither is a lower word
known_before : (old head n k : ℕ) → head < left_word → IsFound old head n → cursor_in n ≡ Some k → (j : ℕ) × (cursor_in old ≡ Some j) × (j ≤ k) × (k ≤ head)
known_before old head n k small (inl left) e = let f : None ≡ Some k = sym (cursor_none n left) ∙ e in cc
known_before old head n k small (inr (low, high)) e =
    let same = cursor_is_word n k e in
    let joined : old ≢ left_word = λ is. omega arith in
    (old, cursor_some old joined, omega arith, omega arith)

pub loaded : (w v : WriterState) (r n : ℕ) → v ≡ looked r n w → r < length w.known → r < length w.loads → w.head < left_word → IsFound (get_or w.known r 0) w.head n → IsLoaded w v r
loaded w v r n e in_known in_loads small found =
    let P : WriterState → Type 0 = λ v. IsLoaded w v r in
    let word : get_or (set w.known r n) r 0 ≡ n = get_or-set_same w.known r n 0 in_known in
    subst P (sym e) record {
      counted = get_or-set_same w.loads r (get_or w.loads r 0 + 1) 0 in_loads;
      found = λ k f. known_before (get_or w.known r 0) w.head n k small found (ap cursor_in (sym word) ∙ f);
    }

-- the writer's end, in terms of its seat before and after
pub end_loaded : (m : WriterMark) (numbers : Numbers) (head : ℕ) (known : List ℕ) (now then : WriterState) (r n : ℕ) → IsWriter m numbers head known → writer_state m ≡ now → r < now.ring.readers
    → then ≡ looked r n (writer_state m) → IsFound (get_or m.view.known r 0) m.view.head n → IsLoaded now then r
end_loaded m numbers head known now then r n i is l e found =
    let words : length m.view.known ≡ numbers.readers = ap length i.known_is ∙ i.known_in in
    let counts = i.loads_in in
    let readers = i.numbers.readers_is in
    let here : now.ring.readers ≡ m.view.ring.readers = sym (ap (λ (w : WriterState). w.ring.readers) is) in
    let at = i.head_is in
    let below = i.head_in in
    let small = i.numbers.total_in in
    let P : WriterState → Type 0 = λ w. IsLoaded w then r in
    subst P is (loaded (writer_state m) then r n e (omega arith) (omega arith) (omega arith) found)

-- a reader that a note does not record as left has a cursor in the note
pub told_joined : (known : List ℕ) (r : ℕ) → get_or known r 0 ≢ left_word → (k : ℕ) × (cursor_known known r ≡ Some k)
told_joined known r joined = (get_or known r 0, cursor_some (get_or known r 0) joined)
