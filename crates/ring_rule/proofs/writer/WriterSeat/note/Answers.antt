use Rattle.std.proofs.Common.{arith}
use Rattle.ring_rule.specs.Plays.{writer_in}
use Rattle.ring_rule.specs.Key.{key_ring}
use Rattle.ring_rule.proofs.Seated.{writer_words, may_note}
use Rattle.ring_rule.proofs.writer.WriterSeat.note.Goals as goal

pub split_seat-requires : goal.split_seat-requires
split_seat-requires g c =
    let s = c.self.inside in
    let i = c.self.invariant in
    let words = writer_words i in
    (i.table, omega arith, may_note (key_ring g.D.Deal.rows g.D.Deal.size s.shared.now.key) s.shared.now.table_id.slots s.seat.id s.seat.me (writer_in s.seat.me.0) i.me_is)
