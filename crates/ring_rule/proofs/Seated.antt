-- The table's conditions on each call, for a seat whose invariant gives its view, and the seat after the
-- call.
use Rattle.std.proofs.Common.{◌≡◌, ℕ, ◌+◌, ◌<◌, Bool, true, false, cond, [], ◌∷◌, sym, ◌∙◌, refl, ap, subst, arith}
use Rattle.std.specs.Prelude.{Some, None}
use Rattle.std.proofs.lemmas.Bool.{false≢true}
use mathlib.Core.Option.{none}
use Rattle.atomic_table.specs.Table.{step, rest, Allows, Splits, Joins}
use Rattle.atomic_table.specs.Seated.{TableId}
use Rattle.ring_core.specs.Schedule.{lane_place}
use Rattle.ring_rule.specs.declared.lane.Lane.{Lane}
use Rattle.ring_rule.specs.declared.view.RingNumbers.{RingNumbers}
use Rattle.ring_rule.specs.declared.view.WriterView.{WriterView}
use Rattle.ring_rule.specs.declared.view.ReaderView.{ReaderView}
use Rattle.ring_rule.specs.declared.view.HeadNoteView.{HeadNoteView}
use Rattle.ring_rule.specs.declared.view.CursorNoteView.{CursorNoteView}
use Rattle.ring_rule.specs.declared.view.View.TheVariants.{Writer, Reader, HeadNote, CursorNote, Spent}
use Rattle.ring_rule.specs.Views.{left_word}
use Rattle.ring_rule.specs.Shown.{Slot}
use Rattle.ring_rule.specs.Kept.{row_at, Kept}
use Rattle.ring_rule.specs.Plays.{Sat, writer_in, reader_in, slot_for, slot_of, looked_at, gave, writer_met, reader_met, IsPastNote, IsPastHead, MayPublish, MayFill, MayTake, IsPick, IsTake, picked, LooksAt, PublishesAt, PicksAt, PlacesAt, SeesAt, TakesAt, GivesAt, AdvancesAt, LeavesAt, made_more, made_reader, noted, met}
use Rattle.ring_rule.specs.Seats.{seated_writer, seated_reader, held_by, IsWriterSeat, IsReaderSeat}
use Rattle.ring_rule.proofs.WriterCalls
use Rattle.ring_rule.proofs.ReaderCalls

-- a seat's table has a word for the head and one for each reader
pub writer_words : {g : RingNumbers} {shared own : TableId} {m : Sat} {places head total : ℕ} → IsWriterSeat g shared own m places head total → shared.words ≡ g.readers + 1
writer_words i = sym (ap (λ (t : TableId). t.words) i.table) ∙ i.words

pub reader_words : {g : RingNumbers} {shared own : TableId} {m : Sat} {number places cursor seen : ℕ} {closed : Bool} → IsReaderSeat g shared own m number places cursor seen closed → shared.words ≡ g.readers + 1
reader_words i = sym (ap (λ (t : TableId). t.words) i.table) ∙ i.words

-- a reader of the view's ring is one of the ring
pub one_of_readers : {g : RingNumbers} {shared own : TableId} {m : Sat} {places head total : ℕ} (r : ℕ) → IsWriterSeat g shared own m places head total → r < (writer_in m.0).ring.readers → r < g.readers
one_of_readers r i within = subst (λ (z : RingNumbers). r < z.readers) i.ring within

-- the word of the reader's cursor
pub reader_word : {g : RingNumbers} {shared own : TableId} {m : Sat} {number places cursor seen : ℕ} {closed : Bool} → IsReaderSeat g shared own m number places cursor seen closed → number + 1 < shared.words
reader_word i =
    let words = reader_words i in
    let range = i.number_in in
    omega arith

pub reader_index : {g : RingNumbers} {shared own : TableId} {m : Sat} {number places cursor seen : ℕ} {closed : Bool} → IsReaderSeat g shared own m number places cursor seen closed → number + 1 ≡ (reader_in m.0).number + 1
reader_index i = ap (λ n. n + 1) (sym i.number_is)

module _ (g : RingNumbers) (slots id : ℕ) (m : Sat) (w : WriterView) (e : m ≡ seated_writer w) where
  pub may_look : (r : ℕ) → r < g.readers → w.hand ≡ None → Allows (Kept g) slots id m (r + 1) (λ n. n) (LooksAt (step slots (r + 1) 0 0 none) m)
  may_look r l hand =
      let P : Sat → Type 0 = λ m. Allows (Kept g) slots id m (r + 1) (λ n. n) (LooksAt (step slots (r + 1) 0 0 none) m) in
      subst P (sym e) (WriterCalls.looks g slots id w r l hand)

  pub may_publish : (n : ℕ) → n ≡ w.head + 1 → MayPublish w → Allows (Kept g) slots id m 0 (λ _. n) (λ _. PublishesAt (step slots 0 n 0 none) m n)
  may_publish n up may =
      let P : Sat → Type 0 = λ m. Allows (Kept g) slots id m 0 (λ _. n) (λ _. PublishesAt (step slots 0 n 0 none) m n) in
      subst P (sym e) (WriterCalls.publishes g slots id w n up may)

  pub may_pick : (r : ℕ) → w.hand ≡ None → MayFill w r → Allows (Kept g) slots id m 0 (λ n. n) (PicksAt r (step slots 0 0 0 none) m)
  may_pick r hand may =
      let P : Sat → Type 0 = λ m. Allows (Kept g) slots id m 0 (λ n. n) (PicksAt r (step slots 0 0 0 none) m) in
      subst P (sym e) (WriterCalls.picks g slots id w r hand may)

  pub may_split : w.made < g.readers → Splits (Kept g) id m.0 (made_more m.0) (made_reader m.0)
  may_split l =
      let P : Sat → Type 0 = λ m. Splits (Kept g) id m.0 (made_more m.0) (made_reader m.0) in
      subst P (sym e) (WriterCalls.splits g slots id w l)

  pub may_note : Splits (Kept g) id m.0 m.0 (noted m.0)
  may_note =
      let P : Sat → Type 0 = λ m. Splits (Kept g) id m.0 m.0 (noted m.0) in
      subst P (sym e) (WriterCalls.notes g slots id w)

  pub may_meet : (other : ℕ) (o : Sat) (n : CursorNoteView) → o ≡ (CursorNote n, []) → Joins (Kept g) id m.0 other o.0 (met m.0 o.0) Spent
  may_meet other o n f =
      let P : Sat → Sat → Type 0 = λ m o. Joins (Kept g) id m.0 other o.0 (met m.0 o.0) Spent in
      subst (λ x. x) (λ i. P (sym e i) (sym f i)) (WriterCalls.meets g slots id w other n)

-- the writer with a lane out returns it to its slot
pub may_place : (g : RingNumbers) (slots id r slot : ℕ) (m : Sat) (w : WriterView) (lane : Lane) → m ≡ (Writer w, (slot, Some lane) ∷ []) → slot ≡ slot_for w r → w.hand ≡ Some r → lane.number ≡ Some w.head → lane.bytes.items ≡ row_at w.ring w.head
    → Allows (Kept g) slots id m 0 (λ n. n) (PlacesAt (step slots 0 0 0 none) m)
may_place g slots id r slot m w lane e place hand number row =
    let P : Sat → Type 0 = λ m. Allows (Kept g) slots id m 0 (λ n. n) (PlacesAt (step slots 0 0 0 none) m) in
    subst P (sym e) (WriterCalls.places g slots id w r slot lane place hand number row)

-- the writer's seat with another view of the same ring, hand and head
seat_with : (g : RingNumbers) (shared own last : TableId) (places head total : ℕ) (m later : Sat) (v : WriterView) → IsWriterSeat g shared own m places head total → last ≡ own → later ≡ seated_writer v
    → v.ring ≡ (writer_in m.0).ring → v.hand ≡ (writer_in m.0).hand → v.head ≡ (writer_in m.0).head → IsWriterSeat g shared last later places head total
seat_with g shared own last places head total m later v i t seat ring hand at =
    let is : writer_in later.0 ≡ v = ap (λ (x : Sat). writer_in x.0) seat in
    record {
      table = t ∙ i.table;
      words = ap (λ (x : TableId). x.words) t ∙ i.words;
      me_is = seat ∙ ap seated_writer (sym is);
      ring = ap (λ (u : WriterView). u.ring) is ∙ (ring ∙ i.ring);
      hand = ap (λ (u : WriterView). u.hand) is ∙ (hand ∙ i.hand);
      some_place = i.some_place;
      places_is = i.places_is;
      head_is = i.head_is ∙ (sym at ∙ sym (ap (λ (u : WriterView). u.head) is));
      total_is = i.total_is;
    }

-- the writer's seat after loading a cursor
pub looked_seat : {g : RingNumbers} {shared own : TableId} {places head total : ℕ} {m : Sat} (after : TableId) (slots r n : ℕ) (later : Sat) → IsWriterSeat g shared own m places head total → after ≡ own
    → LooksAt (step slots (r + 1) 0 0 none) m n later → IsWriterSeat g shared after later places head total
looked_seat {g} {shared} {own} {places} {head} {total} {m} after slots r n later i t h =
    let v = looked_at r n (writer_in m.0) in
    seat_with g shared own after places head total m later v i t ((h r refl).seat ∙ (λ j. (Writer v, (i.me_is j).1))) refl refl refl

-- with no lane out, a reader's seat holds no slot
pub empty_hands : (m : Sat) → m ≡ seated_reader (reader_in m.0) → (reader_in m.0).out ≡ false → m ≡ (Reader (reader_in m.0), [])
empty_hands m e out = e ∙ (λ i. (Reader (reader_in m.0), cond (out i) ((slot_of (reader_in m.0), None) ∷ []) []))

module _ (g : RingNumbers) (slots id : ℕ) (m : Sat) (x : ReaderView) where
  pub may_see : m ≡ seated_reader x → x.left ≡ false → Allows (Kept g) slots id m 0 (λ n. n) (SeesAt (step slots 0 0 0 none) m)
  may_see e joined =
      let P : Sat → Type 0 = λ m. Allows (Kept g) slots id m 0 (λ n. n) (SeesAt (step slots 0 0 0 none) m) in
      subst P (sym e) (ReaderCalls.sees g slots id x (held_by x) joined)

  pub may_take : (i : ℕ) → m ≡ (Reader x, []) → i ≡ x.number + 1 → MayTake x → Allows (Kept g) slots id m i (λ n. n) (TakesAt (step slots i 0 0 none) m)
  may_take i e p may =
      let P : ℕ → Sat → Type 0 = λ i m. Allows (Kept g) slots id m i (λ n. n) (TakesAt (step slots i 0 0 none) m) in
      subst (λ z. z) (λ j. P (sym p j) (sym e j)) (ReaderCalls.takes_row g slots id x may)

  pub may_give : (i slot : ℕ) (lane : Lane) → m ≡ (Reader x, (slot, Some lane) ∷ []) → i ≡ x.number + 1 → slot ≡ slot_of x → x.out ≡ true → lane.number ≡ Some x.taken → lane.bytes.items ≡ row_at x.ring x.taken
      → Allows (Kept g) slots id m i (λ n. n) (GivesAt (step slots i 0 0 none) m)
  may_give i slot lane e p place out number row =
      let P : ℕ → Sat → Type 0 = λ i m. Allows (Kept g) slots id m i (λ n. n) (GivesAt (step slots i 0 0 none) m) in
      subst (λ z. z) (λ j. P (sym p j) (sym e j)) (ReaderCalls.gives_row g slots id x slot lane place out number row)

  pub may_advance : (i n : ℕ) → m ≡ (Reader x, []) → i ≡ x.number + 1 → n ≡ x.taken + 1 → MayTake x → Allows (Kept g) slots id m i (λ _. n) (λ _. AdvancesAt (step slots i n 0 none) m n)
  may_advance i n e p q may =
      let P : Sat → Type 0 = λ m. Allows (Kept g) slots id m i (λ _. n) (λ _. AdvancesAt (step slots i n 0 none) m n) in
      subst P (sym e) (ReaderCalls.advances g slots id x i n p q may)

  pub may_leave : (i : ℕ) → m ≡ (Reader x, []) → i ≡ x.number + 1 → x.left ≡ false → x.out ≡ false → Allows (Kept g) slots id m i (λ _. left_word) (λ _. LeavesAt (step slots i left_word 0 none) m left_word)
  may_leave i e p joined home =
      let P : Sat → Type 0 = λ m. Allows (Kept g) slots id m i (λ _. left_word) (λ _. LeavesAt (step slots i left_word 0 none) m left_word) in
      subst P (sym e) (ReaderCalls.leaves g slots id x i p joined home)

  pub may_note_cursor : m ≡ seated_reader x → Splits (Kept g) id m.0 m.0 (noted m.0)
  may_note_cursor e =
      let P : Sat → Type 0 = λ m. Splits (Kept g) id m.0 m.0 (noted m.0) in
      subst P (sym e) (ReaderCalls.notes g slots id x)

  pub may_meet_head : (other : ℕ) (o : Sat) (n : HeadNoteView) → m ≡ seated_reader x → o ≡ (HeadNote n, []) → Joins (Kept g) id m.0 other o.0 (met m.0 o.0) Spent
  may_meet_head other o n e f =
      let P : Sat → Sat → Type 0 = λ m o. Joins (Kept g) id m.0 other o.0 (met m.0 o.0) Spent in
      subst (λ z. z) (λ i. P (sym e i) (sym f i)) (ReaderCalls.meets g slots id x other n)

-- the index of the reader's lane for its next row
pub reader_slot : {g : RingNumbers} {shared own : TableId} {m : Sat} {number places cursor seen : ℕ} {closed : Bool} → IsReaderSeat g shared own m number places cursor seen closed
    → slot_of (reader_in m.0) ≡ lane_place places number cursor
reader_slot {g} {shared} {own} {m} {number} {places} {cursor} i =
    (λ j. lane_place (i.ring j).places (i.number_is j) (sym i.cursor_is j)) ∙ (λ j. lane_place (i.places_is j) number cursor)

-- the slot that a reader holds once it has taken its row
pub taken_slot : (m after : Sat) (slot : ℕ) → m ≡ (Reader (reader_in m.0), []) → slot_of (reader_in m.0) ≡ slot → IsTake m after → (old : Slot) × (after.1 ≡ (slot, old) ∷ rest after.1)
taken_slot m after slot e place t =
    let held : after.1 ≡ (slot_of (reader_in m.0), Some t.lane) ∷ m.1 = ap (λ (a : Sat). a.1) t.seat in
    let here : after.1 ≡ (slot, Some t.lane) ∷ [] = held ∙ (λ i. (place i, Some t.lane) ∷ (e i).1) in
    (Some t.lane, here ∙ (λ i. (slot, Some t.lane) ∷ rest (sym here i)))

-- the slot that a reader holds while its row is out
pub held_out : (m : Sat) → m ≡ seated_reader (reader_in m.0) → (reader_in m.0).out ≡ true → m ≡ (Reader (reader_in m.0), (slot_of (reader_in m.0), None) ∷ [])
held_out m e out = e ∙ (λ i. (Reader (reader_in m.0), cond (out i) ((slot_of (reader_in m.0), None) ∷ []) []))

-- that slot with the row back in it
pub filled_slot : (m after : Sat) (slot : ℕ) (lane : Lane) → m ≡ (Reader (reader_in m.0), (slot_of (reader_in m.0), None) ∷ []) → after ≡ (m.0, (slot, Some lane) ∷ rest m.1) → after ≡ (Reader (reader_in m.0), (slot, Some lane) ∷ [])
filled_slot m after slot lane e f = f ∙ (λ i. ((e i).0, (slot, Some lane) ∷ rest (e i).1))

-- the reader's seat once it has given its row back
pub given_seat : (g : RingNumbers) (shared own last : TableId) (number places cursor seen slot : ℕ) (closed : Bool) (lane : Lane) (m mid after : Sat) → IsReaderSeat g shared own m number places cursor seen closed
    → (reader_in m.0).out ≡ true → last ≡ own → mid ≡ (Reader (reader_in m.0), (slot, Some lane) ∷ []) → GivesAt (step 0 0 0 0 none) mid 0 after → IsReaderSeat g shared last after number places cursor seen true
given_seat g shared own last number places cursor seen slot closed lane m mid after i out t e h =
    let x = reader_in m.0 in
    let y = gave x in
    let f = i.out_fits out in
    let seat : after ≡ (Reader y, []) = h ∙ (λ j. (Reader (gave (reader_in (e j).0)), rest (e j).1)) in
    let is : reader_in after.0 ≡ y = ap (λ (a : Sat). reader_in a.0) seat in
    let count : last.words ≡ own.words = ap (λ (z : TableId). z.words) t in
    let P : ReaderView → Type 0 = λ z. MayTake z in
    record {
      table = t ∙ i.table;
      words = count ∙ i.words;
      me_is = seat ∙ ap seated_reader (sym is);
      ring = ap (λ (z : ReaderView). z.ring) is ∙ i.ring;
      number_in = i.number_in;
      number_is = ap (λ (z : ReaderView). z.number) is ∙ i.number_is;
      some_place = i.some_place;
      places_is = i.places_is;
      cursor_is = i.cursor_is ∙ sym (ap (λ (z : ReaderView). z.taken) is);
      seen_is = i.seen_is ∙ sym (ap (λ (z : ReaderView). z.seen) is);
      out_fits = λ o. let z : false ≡ true = sym (ap (λ (u : ReaderView). u.out) is) ∙ o in absurd (false≢true z);
      closed_fits = λ _. subst P (sym is) record { joined = f.joined; ahead = f.ahead; home = refl };
    }

-- the index of the writer's lane of a reader for row head
pub writer_slot : {g : RingNumbers} {shared own : TableId} {m : Sat} {places head total : ℕ} (r : ℕ) → IsWriterSeat g shared own m places head total → slot_for (writer_in m.0) r ≡ lane_place places r head
writer_slot {g} {shared} {own} {m} {places} {head} r i = (λ j. lane_place (i.ring j).places r (sym i.head_is j)) ∙ (λ j. lane_place (i.places_is j) r head)

-- the slot that the writer holds once it has taken it
pub picked_slot : (m after : Sat) (r slot : ℕ) → m ≡ seated_writer (writer_in m.0) → slot_for (writer_in m.0) r ≡ slot → IsPick r m after → (old : Slot) × (after.1 ≡ (slot, old) ∷ rest after.1)
picked_slot m after r slot e place t =
    let held : after.1 ≡ (slot_for (writer_in m.0) r, Some t.lane) ∷ m.1 = ap (λ (a : Sat). a.1) t.seat in
    let here : after.1 ≡ (slot, Some t.lane) ∷ [] = held ∙ (λ i. (place i, Some t.lane) ∷ (e i).1) in
    (Some t.lane, here ∙ (λ i. (slot, Some t.lane) ∷ rest (sym here i)))

-- that slot with a buffer in it, after two exchanges
pub placed_slot : (m one two three : Sat) (r slot : ℕ) (lane : Lane) → m ≡ seated_writer (writer_in m.0) → IsPick r m one → two ≡ (one.0, (slot, None) ∷ rest one.1) → three ≡ (two.0, (slot, Some lane) ∷ rest two.1)
    → three ≡ (Writer (picked r (writer_in m.0)), (slot, Some lane) ∷ [])
placed_slot m one two three r slot lane e t f h =
    let v = picked r (writer_in m.0) in
    let a : one ≡ (Writer v, (slot_for (writer_in m.0) r, Some t.lane) ∷ []) = t.seat ∙ (λ i. (Writer v, (slot_for (writer_in m.0) r, Some t.lane) ∷ (e i).1)) in
    let b : two ≡ (Writer v, (slot, None) ∷ []) = f ∙ (λ i. ((a i).0, (slot, None) ∷ rest (a i).1)) in
    h ∙ (λ i. ((b i).0, (slot, Some lane) ∷ rest (b i).1))

-- Seats that took in a note

pub reader_after : (m o mid : Sat) (n : HeadNoteView) → m ≡ seated_reader (reader_in m.0) → o ≡ (HeadNote n, []) → mid ≡ (met m.0 o.0, m.1) → mid ≡ seated_reader (reader_met n (reader_in m.0))
reader_after m o mid n e f h = h ∙ (λ i. (met (e i).0 (f i).0, (e i).1))

pub writer_after : (m o mid : Sat) (n : CursorNoteView) → m ≡ seated_writer (writer_in m.0) → o ≡ (CursorNote n, []) → mid ≡ (met m.0 o.0, m.1) → mid ≡ seated_writer (writer_met n (writer_in m.0))
writer_after m o mid n e f h = h ∙ (λ i. (met (e i).0 (f i).0, (e i).1))

pub met_writer_seat : {g : RingNumbers} {shared own : TableId} {places head total : ℕ} {m : Sat} (last : TableId) (mid : Sat) (n : CursorNoteView) → IsWriterSeat g shared own m places head total → last ≡ own
    → mid ≡ seated_writer (writer_met n (writer_in m.0)) → IsWriterSeat g shared last mid places head total
met_writer_seat {g} {shared} {own} {places} {head} {total} {m} last mid n i t e = seat_with g shared own last places head total m mid (writer_met n (writer_in m.0)) i t e refl refl refl

-- after a note was taken in, a load of the reader's cursor word is past the note
pub told_past : (slots r n : ℕ) (m mid after : Sat) (note : CursorNoteView) → mid ≡ seated_writer (writer_met note (writer_in m.0)) → note.number ≡ r → LooksAt (step slots (r + 1) 0 0 none) mid n after → IsPastNote note n
told_past slots r n m mid after note e number h = (h r refl).told note (ap (λ (x : Sat). (writer_in x.0).told) e) number

-- after a note was taken in, a load of the head is past the note
pub told_head : (slots n : ℕ) (m mid after : Sat) (note : HeadNoteView) → mid ≡ seated_reader (reader_met note (reader_in m.0)) → SeesAt (step slots 0 0 0 none) mid n after → IsPastHead note (reader_in m.0).number n
told_head slots n m mid after note e h =
    subst (λ (x : ReaderView). IsPastHead note x.number n) (ap (λ (x : Sat). reader_in x.0) e) (h.told note (ap (λ (x : Sat). (reader_in x.0).told) e))
