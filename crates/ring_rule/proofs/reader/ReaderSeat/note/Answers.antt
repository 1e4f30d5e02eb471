use Rattle.std.proofs.Common.{arith}
use Rattle.ring_rule.specs.Plays.{reader_in}
use Rattle.ring_rule.specs.Key.{key_ring}
use Rattle.ring_rule.proofs.Seated.{reader_words, may_note_cursor}
use Rattle.ring_rule.proofs.reader.ReaderSeat.note.Goals as goal

pub split_seat-cut-requires : goal.split_seat-cut-requires
split_seat-cut-requires g c =
    let s = c.self.inside in
    let i = c.self.invariant in
    let words = reader_words i in
    (i.table, omega arith, may_note_cursor (key_ring g.D.Deal.rows g.D.Deal.size s.shared.now.key) s.shared.now.table_id.slots s.seat.id s.seat.me (reader_in s.seat.me.0) i.me_is)
