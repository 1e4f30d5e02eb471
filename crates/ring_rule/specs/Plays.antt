-- What each step does to the view of its seat, and what the seat learns from it.
use Rattle.std.specs.Prelude.{◌≡◌, ◌≢◌, ℕ, ◌+◌, ◌<◌, ◌≤◌, ◌⊎◌, Bool, true, false, List, [], ◌∷◌, length, map}
use Rattle.std.specs.Prelude.{Option, Some, None, slice_index, slice_index_or, slice_set}
use Rattle.atomic_table.specs.Table.{Me, Step, rest}
use Rattle.ring_core.specs.Schedule.{lane_place}
use Rattle.ring_rule.specs.declared.lane.Lane.{Lane}
use Rattle.ring_rule.specs.declared.view.RingNumbers.{RingNumbers}
use Rattle.ring_rule.specs.declared.view.WriterView.{WriterView}
use Rattle.ring_rule.specs.declared.view.ReaderView.{ReaderView}
use Rattle.ring_rule.specs.declared.view.HeadNoteView.{HeadNoteView}
use Rattle.ring_rule.specs.declared.view.CursorNoteView.{CursorNoteView}
use Rattle.ring_rule.specs.declared.view.View.{View}
use Rattle.ring_rule.specs.declared.view.View.TheVariants.{Writer, Reader, HeadNote, CursorNote, Spent}
use Rattle.ring_rule.specs.Views.{left_word, cursor_in, ring_of, new_writer, new_reader}
use Rattle.ring_rule.specs.Shown.{Slot}
use Rattle.ring_rule.specs.Kept.{row_at}

-- a seat's view, and the slots that are out with it
abbrev pub Sat : Type 0
Sat = Me Slot View

abbrev no_ring : RingNumbers
no_ring = ring_of 0 0 [] 0

-- the view of a writer's seat
abbrev pub writer_in : View → WriterView
writer_in (Writer w) = w
writer_in (Reader x) = new_writer x.ring
writer_in (HeadNote n) = new_writer n.ring
writer_in (CursorNote n) = new_writer n.ring
writer_in Spent = new_writer no_ring

-- the view of a reader's seat
abbrev pub reader_in : View → ReaderView
reader_in (Writer w) = new_reader w.ring w.made
reader_in (Reader x) = x
reader_in (HeadNote n) = new_reader n.ring 0
reader_in (CursorNote n) = new_reader n.ring 0
reader_in Spent = new_reader no_ring 0

-- the writer found n in the cursor word of reader r
abbrev pub looked_at : ℕ → ℕ → WriterView → WriterView
looked_at r n w = record w {
  known = slice_set w.known r n;
  loads = slice_set w.loads r (slice_index w.loads r + 1);
}

-- the writer published the row numbered head, and has filled no lane for the next
abbrev pub published : WriterView → WriterView
published w = record w { head = w.head + 1; filled = map (λ _. false) w.filled }

-- the writer took the lane of reader r for the row numbered head
abbrev pub picked : ℕ → WriterView → WriterView
picked r w = record w { hand = Some r }

abbrev pub filled_at : Option ℕ → List Bool → List Bool
filled_at None filled = filled
filled_at (Some r) filled = slice_set filled r true

-- the writer returned that lane to its slot, filled
abbrev pub placed : WriterView → WriterView
placed w = record w { hand = None; filled = filled_at w.hand w.filled }

-- the writer filled the lane of reader r for the row numbered head
abbrev pub filled_lane : ℕ → WriterView → WriterView
filled_lane r w = record w { filled = slice_set w.filled r true }

-- the reader found n in the head word
abbrev pub saw_head : ℕ → ReaderView → ReaderView
saw_head n x = record x { seen = n; loads = x.loads + 1 }

-- the reader took its lane for its next row
abbrev pub took : ReaderView → ReaderView
took x = record x { out = true }

-- the reader returned that lane to its slot
abbrev pub gave : ReaderView → ReaderView
gave x = record x { out = false }

-- the reader advanced to its next row
abbrev pub went_on : ReaderView → ReaderView
went_on x = record x { taken = x.taken + 1 }

-- the reader left
abbrev pub gone : ReaderView → ReaderView
gone x = record x { left = true }

-- the index of the writer's lane of reader r for the row numbered head
abbrev pub slot_for : WriterView → ℕ → ℕ
slot_for w r = lane_place w.ring.places r w.head

-- the index of the reader's lane for its next row
abbrev pub slot_of : ReaderView → ℕ
slot_of x = lane_place x.ring.places x.number x.taken

-- a cursor word of reader r: it left, or n is between the cursor that the writer knew and head
abbrev pub IsCursorOf : WriterView → ℕ → ℕ → Type 0
IsCursorOf w r n = (n ≡ left_word) ⊎ ((slice_index w.known r ≤ n) × (n ≤ w.head))

-- a cursor word loaded after a note of that reader: the reader left, or took at least as many rows as the
-- note says; it left if the note says so
pub record IsPastNote (note : CursorNoteView) (n : ℕ) : Type 0 where
  pub cursor : (n ≡ left_word) ⊎ (note.taken ≤ n)
  pub left : note.left ≡ true → n ≡ left_word

-- a head word loaded after a note of the writer: at least the note's head, and the note does not record this
-- reader as left
pub record IsPastHead (note : HeadNoteView) (number n : ℕ) : Type 0 where
  pub head : note.head ≤ n
  pub joined : slice_index note.known number ≢ left_word

-- the writer may publish: a row remains, and each reader that it has not seen leave has its lane filled
pub record MayPublish (w : WriterView) : Type 0 where
  pub row : w.head < w.ring.total
  pub filled : (r k : ℕ) → r < w.ring.readers → cursor_in (slice_index w.known r) ≡ Some k
      → slice_index_or w.filled r false ≡ true

-- the writer may fill the lane of reader r: a row remains, there is room for it as far as the writer knows,
-- and that lane is not yet filled
pub record MayFill (w : WriterView) (r : ℕ) : Type 0 where
  pub in_range : r < w.ring.readers
  pub row : w.head < w.ring.total
  pub room : (k : ℕ) × (cursor_in (slice_index w.known r) ≡ Some k) × (w.head < k + w.ring.places)
  pub unfilled : slice_index_or w.filled r false ≡ false

-- a reader may take its row: it is joined, knows of a row at its cursor, and has no lane out
pub record MayTake (x : ReaderView) : Type 0 where
  pub joined : x.left ≡ false
  pub ahead : x.taken < x.seen
  pub home : x.out ≡ false

abbrev pub Told : Type 1
Told = Step Slot → Sat → ℕ → Sat → Type 0

-- the result of a load of reader r's cursor
pub record IsLook (before : Sat) (r n : ℕ) (after : Sat) : Type 0 where
  pub seat : after ≡ (Writer (looked_at r n (writer_in before.0)), before.1)
  pub cursor : IsCursorOf (writer_in before.0) r n
  pub told : (note : CursorNoteView) → (writer_in before.0).told ≡ Some note → note.number ≡ r
      → IsPastNote note n

abbrev pub LooksAt : Told
LooksAt s before n after = (r : ℕ) → s.word ≡ r + 1 → IsLook before r n after

abbrev pub PublishesAt : Told
PublishesAt s before n after = after ≡ (Writer (published (writer_in before.0)), before.1)

-- the writer has the lane of reader r out, whose buffer is as long as the row that it will hold
pub record IsPick (r : ℕ) (before after : Sat) : Type 0 where
  pub lane : Lane
  pub seat : let w = writer_in before.0 in after ≡ (Writer (picked r w), (slot_for w r, Some lane) ∷ before.1)
  pub long : length lane.bytes.items ≡ (writer_in before.0).ring.row_len
  pub row_long : let w = writer_in before.0 in length (row_at w.ring w.head) ≡ w.ring.row_len

abbrev pub PicksAt : ℕ → Told
PicksAt r s before n after = IsPick r before after

abbrev pub PlacesAt : Told
PlacesAt s before n after = after ≡ (Writer (placed (writer_in before.0)), rest before.1)

pub record IsSight (before : Sat) (n : ℕ) (after : Sat) : Type 0 where
  pub seat : after ≡ (Reader (saw_head n (reader_in before.0)), before.1)
  pub grows : (reader_in before.0).seen ≤ n
  pub within : n ≤ (reader_in before.0).ring.total
  pub told : (note : HeadNoteView) → (reader_in before.0).told ≡ Some note
      → IsPastHead note (reader_in before.0).number n

abbrev pub SeesAt : Told
SeesAt s before n after = IsSight before n after

-- the reader has its lane out, and the buffer holds its next row
pub record IsTake (before after : Sat) : Type 0 where
  pub lane : Lane
  pub seat : let x = reader_in before.0 in after ≡ (Reader (took x), (slot_of x, Some lane) ∷ before.1)
  pub number : lane.number ≡ Some (reader_in before.0).taken
  pub row : lane.bytes.items ≡ row_at (reader_in before.0).ring (reader_in before.0).taken

abbrev pub TakesAt : Told
TakesAt s before n after = IsTake before after

abbrev pub GivesAt : Told
GivesAt s before n after = after ≡ (Reader (gave (reader_in before.0)), rest before.1)

abbrev pub AdvancesAt : Told
AdvancesAt s before n after = after ≡ (Reader (went_on (reader_in before.0)), before.1)

abbrev pub LeavesAt : Told
LeavesAt s before n after = after ≡ (Reader (gone (reader_in before.0)), before.1)

-- How views are split and joined

-- the writer's view after it makes one more reader, and then that reader's view
abbrev pub made_more : View → View
made_more (Writer w) = Writer record w { made = w.made + 1 }
made_more (Reader x) = Reader x
made_more (HeadNote n) = HeadNote n
made_more (CursorNote n) = CursorNote n
made_more Spent = Spent

abbrev pub made_reader : View → View
made_reader (Writer w) = Reader (new_reader w.ring w.made)
made_reader (Reader x) = Spent
made_reader (HeadNote n) = Spent
made_reader (CursorNote n) = Spent
made_reader Spent = Spent

-- the content of the writer's note, and of a reader's note
abbrev pub head_note : WriterView → HeadNoteView
head_note w = record { ring = w.ring; head = w.head; known = w.known }

abbrev pub cursor_note : ReaderView → CursorNoteView
cursor_note x = record { ring = x.ring; number = x.number; taken = x.taken; left = x.left }

-- the view of a note made by this seat
abbrev pub noted : View → View
noted (Writer w) = HeadNote (head_note w)
noted (Reader x) = CursorNote (cursor_note x)
noted (HeadNote n) = Spent
noted (CursorNote n) = Spent
noted Spent = Spent

-- the view of a note's seat
abbrev pub head_note_in : View → HeadNoteView
head_note_in (HeadNote n) = n
head_note_in (Writer w) = head_note w
head_note_in (Reader x) = head_note (new_writer x.ring)
head_note_in (CursorNote n) = head_note (new_writer n.ring)
head_note_in Spent = head_note (new_writer no_ring)

abbrev pub cursor_note_in : View → CursorNoteView
cursor_note_in (CursorNote n) = n
cursor_note_in (Writer w) = cursor_note (new_reader w.ring 0)
cursor_note_in (Reader x) = cursor_note x
cursor_note_in (HeadNote n) = cursor_note (new_reader n.ring 0)
cursor_note_in Spent = cursor_note (new_reader no_ring 0)

-- a seat keeps the content of a note joined to it
abbrev pub writer_met : CursorNoteView → WriterView → WriterView
writer_met n w = record w { told = Some n }

abbrev pub reader_met : HeadNoteView → ReaderView → ReaderView
reader_met n x = record x { told = Some n }

abbrev pub met : View → View → View
met (Writer w) note = Writer (writer_met (cursor_note_in note) w)
met (Reader x) note = Reader (reader_met (head_note_in note) x)
met (HeadNote n) note = HeadNote n
met (CursorNote n) note = CursorNote n
met Spent note = Spent
