use Rattle.std.proofs.Common.{◌≡◌, List, map, replicate, ap, sym, ◌∙◌, subst, arith, rules}
use Rattle.ring_rule.specs.Views.{up_to}
use Rattle.ring_rule.specs.Marks.{TableMark, WriterMark, ReaderMark}
use Rattle.ring_lanes.specs.Reader.{AreNewSeats, new_reader_state, reader_state}
use Rattle.ring_lanes.specs.Writer.{IsWriter}
use Rattle.ring_lanes.proofs.Keeps.{new_writer_end, new_seats, seats_count, new_readers}
use Rattle.ring_lanes.proofs.ring.Ring.ends.Goals as goal

pub new-requires : goal.new-requires
new-requires g c =
    let t = c.self.inside.table in
    let n = c.of-numbers.result in
    let known = c.in_ok-known.known.items in
    let zeros : known ≡ replicate n.readers 0 = search rules in
    subst (λ (m : WriterMark). IsWriter m n 0 known) (sym c.in_ok-writer.ensures.writer) (new_writer_end t.table t.ring n known c.of-numbers.ensures zeros)

pub reader_ends-requires-clause-room : goal.reader_ends-requires-clause-room
reader_ends-requires-clause-room g c =
    let t = c.self.inside.table in
    let count = seats_count t.table t.ring c.of-numbers.result c.in_ok-writer.field-0.readers.items c.of-numbers.ensures c.in_ok-writer.ensures.readers in
    let exact = c.in_ok-list.ensures.exact in
    omega arith

pub reader_ends-requires-clause-count : goal.reader_ends-requires-clause-count
reader_ends-requires-clause-count g c =
    let t = c.self.inside.table in
    let count = seats_count t.table t.ring c.of-numbers.result c.in_ok-writer.field-0.readers.items c.of-numbers.ensures c.in_ok-writer.ensures.readers in
    omega arith

pub reader_ends-requires-clause-seats : goal.reader_ends-requires-clause-seats
reader_ends-requires-clause-seats g c =
    let t = c.self.inside.table in
    let n = c.of-numbers.result in
    subst (λ (s : List ReaderMark). AreNewSeats n s) (sym c.in_ok-writer.ensures.readers) (new_seats t.table t.ring n c.of-numbers.ensures)

pub returns-clause-readers : goal.returns-clause-readers
returns-clause-readers g c =
    let t = c.self.inside.table in
    let P : TableMark → Type 0 = λ t. c.reader_ends.result.items ≡ map (new_reader_state t.table t.ring) (up_to t.ring.readers) in
    subst P c.self.view_is (c.reader_ends.ensures ∙ (ap (map reader_state) c.in_ok-writer.ensures.readers ∙ new_readers t.table t.ring))
