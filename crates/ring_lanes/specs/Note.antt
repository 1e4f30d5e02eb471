-- What the notes say that the ends of a ring make.
use Rattle.ring_rule.specs.Marks.{HeadNoteMark, CursorNoteMark}
use Rattle.ring_lanes.specs.Writer.{WriterState}
use Rattle.ring_lanes.specs.Reader.{ReaderState}

-- how many rows were published, and the cursor words that the writer knew of the readers
abbrev pub told_by_writer : WriterState → HeadNoteMark
told_by_writer w = record { table = w.table; note = record { ring = w.ring; head = w.head; known = w.known } }

-- how many rows the reader had taken and given back, and whether it had left
abbrev pub told_by_reader : ReaderState → CursorNoteMark
told_by_reader x = record {
  table = x.table;
  note = record { ring = x.ring; number = x.number; taken = x.cursor; left = x.left };
}
