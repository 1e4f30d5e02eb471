-- What contracts see of a ring's table and of its seats.
use Rattle.std.specs.Prelude.{ℕ, Bool, false}
use Rattle.atomic_table.specs.Seated.{TableId}
use Rattle.ring_rule.specs.declared.view.RingNumbers.{RingNumbers}
use Rattle.ring_rule.specs.declared.view.WriterView.{WriterView}
use Rattle.ring_rule.specs.declared.view.ReaderView.{ReaderView}
use Rattle.ring_rule.specs.declared.view.HeadNoteView.{HeadNoteView}
use Rattle.ring_rule.specs.declared.view.CursorNoteView.{CursorNoteView}
use Rattle.ring_rule.specs.Views.{counted_writer, new_reader}

-- the table's identity, the ring's numbers, and whether no seat was given out
pub record TableMark : Type 0 where
  pub table : TableId
  pub ring : RingNumbers
  pub fresh : Bool

-- the identity of the seat's table, and the seat's view
pub record WriterMark : Type 0 where
  pub table : TableId
  pub view : WriterView

-- the same for a reader, and whether the row at its cursor was taken and given back
pub record ReaderMark : Type 0 where
  pub table : TableId
  pub view : ReaderView
  pub closed : Bool

-- the identity of the note's table, and the note's content
pub record HeadNoteMark : Type 0 where
  pub table : TableId
  pub note : HeadNoteView

pub record CursorNoteMark : Type 0 where
  pub table : TableId
  pub note : CursorNoteView

-- the writer's seat once each reader has its own
abbrev pub new_writer_mark : TableId → RingNumbers → WriterMark
new_writer_mark table g = record { table = table; view = counted_writer g g.readers }

abbrev pub new_reader_mark : TableId → RingNumbers → ℕ → ReaderMark
new_reader_mark table g r = record { table = table; view = new_reader g r; closed = false }
