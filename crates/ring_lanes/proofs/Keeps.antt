-- The invariants that the ends of a ring keep between calls.
use Rattle.std.proofs.Common.{◌≡◌, ℕ, zero, suc, ◌+◌, ◌<◌, true, false, List, [], ◌∷◌, ◌++◌, Bool, length, map, replicate, get_or, sym, refl, ap, ◌∙◌, subst, inl, inr, arith, length-append}
use Rattle.std.specs.Prelude.{Some}
use Rattle.std.proofs.lemmas.Bool.{cases_lt, false≢true}
use Rattle.std.proofs.lemmas.List.{length-map, length-replicate, get_or-map, get_or-replicate, get_or_append_left, get_or_past}
use Rattle.std.proofs.lemmas.Simd.{map-map}
use Rattle.std.proofs.lemmas.Option.{slice_get_within, slice_get-get_or, get_or_from_slice_get}
use Rattle.std.proofs.Math.ListN
use Rattle.std.proofs.Math.Seq.{get_or-append_seam}
use Rattle.atomic_table.specs.Seated.{TableId}
use Rattle.ring_rule.specs.declared.view.RingNumbers.{RingNumbers}
use Rattle.ring_rule.specs.Views.{up_to}
use Rattle.ring_rule.specs.Marks.{WriterMark, ReaderMark, new_writer_mark, new_reader_mark}
use Rattle.ring_rule.specs.Plays.{published}
use Rattle.ring_rule.proofs.Numbers.{cursor_some, length_up}
use Rattle.ring_lanes.specs.declared.numbers.Numbers.{Numbers}
use Rattle.ring_lanes.specs.Numbers.{HasNumbers}
use Rattle.ring_lanes.specs.Reader.{AreNewSeats, IsReader, reader_state, new_reader_state}
use Rattle.ring_lanes.specs.Writer.{WriterState, HasRoom, IsWriter, cursor_known, writer_state}
use Rattle.ring_lanes.proofs.Fills.{with_filled}

-- the writer's end after publishing a row for which there was room
pub published_end : (m s a : WriterMark) (n : Numbers) (head : ℕ) (known : List ℕ) (now : WriterState) → IsWriter m n head known → writer_state m ≡ now → HasRoom now → head < n.total
    → s ≡ with_filled m s.view.filled → length s.view.filled ≡ s.view.ring.readers → a ≡ record s { view = published s.view } → IsWriter a n (head + 1) known
published_end m s a n head known now i is room row same count e =
    let P : WriterMark → Type 0 = λ z. IsWriter z n (head + 1) known in
    let filled = s.view.filled in
    let full : a ≡ record m { view = published record m.view { filled = filled } } = e ∙ ap (λ (z : WriterMark). let y : WriterMark = record z { view = published z.view } in y) same in
    let readers : s.view.ring.readers ≡ m.view.ring.readers = ap (λ (z : WriterMark). z.view.ring.readers) same in
    let here : HasRoom (writer_state m) = subst HasRoom (sym is) room in
    let all = i.numbers.readers_is in
    let places = i.numbers.places_is in
    let at = i.head_is in
    subst P (sym full) record {
      numbers = i.numbers;
      head_is = ap (λ k. k + 1) i.head_is;
      head_in = omega arith;
      known_is = i.known_is;
      known_in = i.known_in;
      loads_in = i.loads_in;
      are_known = λ r l joined.
          let word = get_or known r 0 in
          let was = i.are_known r l joined in
          let space = here r (omega arith) word (ap (λ (k : List ℕ). cursor_known k r) i.known_is ∙ cursor_some word joined) in
          (omega arith, omega arith);
      filled_in = length-map filled _ ∙ (count ∙ (readers ∙ i.numbers.readers_is));
      unfilled = λ r. ListN.get_or-map (λ (b : Bool). false) filled r false;
    }

-- Before the first call

get_or-up_to : (n i : ℕ) → i < n → get_or (up_to n) i 0 ≡ i
get_or-up_to zero i l = absurd (omega arith)
get_or-up_to (suc n) i l = elim (cases_lt i n) [
  | inl low ↦ get_or_append_left (up_to n) (n ∷ []) 0 i (let e = length_up n in omega arith) ∙ get_or-up_to n i low
  | inr high ↦
      let here : length (up_to n) ≡ i = let e = length_up n in omega arith in
      let last : n ≡ i = omega arith in
      subst (λ j. get_or (up_to n ++ n ∷ []) j 0 ≡ n) here (get_or-append_seam (up_to n) n [] 0) ∙ last
]

pub new_writer_end : (table : TableId) (ring : RingNumbers) (n : Numbers) (known : List ℕ) → HasNumbers ring n → known ≡ replicate n.readers 0 → IsWriter (new_writer_mark table ring) n 0 known
new_writer_end table ring n known h e =
    let all = h.readers_is in
    let word : (r : ℕ) → r < n.readers → get_or known r 0 ≡ 0 = λ r l. ap (λ (k : List ℕ). get_or k r 0) e ∙ get_or-replicate n.readers r 0 0 l in
    record {
      numbers = h;
      head_is = refl;
      head_in = omega arith;
      known_is = ap (λ k. replicate k 0) all ∙ sym e;
      known_in = ap {B = ℕ} length e ∙ length-replicate n.readers 0;
      loads_in = length-replicate ring.readers 0 ∙ all;
      are_known = λ r l joined. let w = word r l in (omega arith, omega arith);
      filled_in = length-replicate ring.readers false ∙ all;
      unfilled = λ r. elim (cases_lt r ring.readers) [
        | inl low ↦ get_or-replicate ring.readers r false false low
        | inr high ↦ get_or_past (replicate ring.readers false) r false (let k = length-replicate ring.readers false in omega arith)
      ];
    }

pub new_reader_end : (table : TableId) (ring : RingNumbers) (n : Numbers) (r : ℕ) → HasNumbers ring n → r < n.readers → IsReader (new_reader_mark table ring r) n r 0 0 true
new_reader_end table ring n r h l = record {
  numbers = h;
  number_is = refl;
  number_in = l;
  cursor_is = refl;
  seen_is = refl;
  joined_is = refl;
  cursor_in = omega arith;
  seen_in = omega arith;
  ahead = λ e. absurd (false≢true e);
}

pub new_seats : (table : TableId) (ring : RingNumbers) (n : Numbers) → HasNumbers ring n → AreNewSeats n (map (new_reader_mark table ring) (up_to ring.readers))
new_seats table ring n h r m e =
    let f = new_reader_mark table ring in
    let all = up_to ring.readers in
    let long : length (map f all) ≡ ring.readers = length-map all f ∙ length_up ring.readers in
    let within : r < length (map f all) = slice_get_within (map f all) r m e in
    let low : r < ring.readers = omega arith in
    let count = length_up ring.readers in
    let is : f r ≡ m = sym (get_or-map f all r 0 m (omega arith) ∙ ap f (get_or-up_to ring.readers r low)) ∙ get_or_from_slice_get (map f all) r m m e in
    let same = h.readers_is in
    subst (λ (x : ReaderMark). IsReader x n r 0 0 true) is (new_reader_end table ring n r h (omega arith))

-- the next seat is at its reader's index
pub next_seat : (n : Numbers) (seats done rest : List ReaderMark) (m : ReaderMark) (r : ℕ) → AreNewSeats n seats → seats ≡ done ++ m ∷ rest → r ≡ length done → IsReader m n r 0 0 true
next_seat n seats done rest m r new split at =
    let long : length seats ≡ length (done ++ m ∷ rest) = ap {B = ℕ} length split in
    let parts = length-append done (m ∷ rest) in
    let here : get_or seats r m ≡ m = (λ i. get_or (split i) (at i) m) ∙ get_or-append_seam done m rest m in
    new r m (slice_get-get_or seats r m (omega arith) ∙ ap Some here)

pub seats_count : (table : TableId) (ring : RingNumbers) (n : Numbers) (seats : List ReaderMark) → HasNumbers ring n → seats ≡ map (new_reader_mark table ring) (up_to ring.readers) → length seats ≡ n.readers
seats_count table ring n seats h e = ap {B = ℕ} length e ∙ (length-map (up_to ring.readers) (new_reader_mark table ring) ∙ (length_up ring.readers ∙ h.readers_is))

-- the readers' ends as contracts see them
pub new_readers : (table : TableId) (ring : RingNumbers) → map reader_state (map (new_reader_mark table ring) (up_to ring.readers)) ≡ map (new_reader_state table ring) (up_to ring.readers)
new_readers table ring = map-map reader_state (new_reader_mark table ring) (up_to ring.readers)
