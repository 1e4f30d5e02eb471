-- Invariants of each seat between its calls: the token's view, and the copies of its numbers that the code
-- reads.
use Rattle.std.specs.Prelude.{◌≡◌, ℕ, ◌+◌, ◌<◌, ◌≤◌, Bool, true, if◌then◌else◌, List, [], ◌∷◌, None}
use Rattle.atomic_table.specs.Seated.{TableId}
use Rattle.ring_rule.specs.declared.view.RingNumbers.{RingNumbers}
use Rattle.ring_rule.specs.declared.view.WriterView.{WriterView}
use Rattle.ring_rule.specs.declared.view.ReaderView.{ReaderView}
use Rattle.ring_rule.specs.declared.view.View.TheVariants.{Writer, Reader, HeadNote, CursorNote}
use Rattle.ring_rule.specs.Views.{left_word, new_writer}
use Rattle.ring_rule.specs.Shown.{Slot}
use Rattle.ring_rule.specs.Kept.{OutFits}
use Rattle.ring_rule.specs.Plays.{Sat, writer_in, reader_in, head_note_in, cursor_note_in, slot_of, MayTake}

-- the slots out with a reader's seat: while its row is out, that lane's slot, with nothing in it
abbrev pub held_by : ReaderView → List (ℕ × Slot)
held_by x = if x.out then (slot_of x, None) ∷ [] else []

abbrev pub seated_writer : WriterView → Sat
seated_writer w = (Writer w, [])

abbrev pub seated_reader : ReaderView → Sat
seated_reader x = (Reader x, held_by x)

pub record IsWriterSeat (g : RingNumbers) (shared own : TableId) (me : Sat) (places head total : ℕ)
    : Type 0 where
  -- the seat belongs to the table that it steps on, which has a word for the head and one for each reader
  pub table : own ≡ shared
  pub words : own.words ≡ g.readers + 1
  pub me_is : me ≡ seated_writer (writer_in me.0)
  pub ring : (writer_in me.0).ring ≡ g
  -- between its calls the writer has no lane out
  pub hand : (writer_in me.0).hand ≡ None
  pub some_place : 0 < places
  pub places_is : g.places ≡ places
  pub head_is : head ≡ (writer_in me.0).head
  pub total_is : total ≡ g.total

pub record IsReaderSeat (g : RingNumbers) (shared own : TableId) (me : Sat) (number places cursor seen : ℕ)
    (closed : Bool) : Type 0 where
  -- the seat belongs to the table that it steps on, which has a word for the head and one for each reader
  pub table : own ≡ shared
  pub words : own.words ≡ g.readers + 1
  pub me_is : me ≡ seated_reader (reader_in me.0)
  pub ring : (reader_in me.0).ring ≡ g
  pub number_in : number < g.readers
  pub number_is : (reader_in me.0).number ≡ number
  pub some_place : 0 < places
  pub places_is : g.places ≡ places
  pub cursor_is : cursor ≡ (reader_in me.0).taken
  pub seen_is : seen ≡ (reader_in me.0).seen
  -- a row that is out is one that the reader knows of
  pub out_fits : (reader_in me.0).out ≡ true → OutFits (reader_in me.0)
  -- a row that was taken and given back is one that the reader may pass
  pub closed_fits : closed ≡ true → MayTake (reader_in me.0)

-- a note's seat; the table has a word for the maker of a cursor note
pub record IsHeadNoteSeat (own : TableId) (me : Sat) : Type 0 where
  pub me_is : me ≡ (HeadNote (head_note_in me.0), [])

pub record IsCursorNoteSeat (own : TableId) (me : Sat) (number : ℕ) : Type 0 where
  pub me_is : me ≡ (CursorNote (cursor_note_in me.0), [])
  pub number_is : (cursor_note_in me.0).number ≡ number
  pub word_in : number + 1 < own.words

-- the seat that all others are split from, before the first split
pub record IsFreshSeat (g : RingNumbers) (shared own : TableId) (me : Sat) : Type 0 where
  pub table : own ≡ shared
  pub me_is : me ≡ seated_writer (new_writer g)

-- a table: its words, its readers and places, and its rows
pub record IsRingTable (g : RingNumbers) (shared : TableId) (places readers : ℕ) : Type 0 where
  pub words : shared.words ≡ g.readers + 1
  pub readers_is : g.readers ≡ readers
  pub places_is : g.places ≡ places
  pub some_place : 0 < places
  pub few_readers : readers ≤ 17
  pub total_in : g.total < left_word
  pub some_byte : 1 ≤ g.row_len
  pub few_bytes : g.row_len ≤ 8258
