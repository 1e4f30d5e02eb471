use Rattle.std.proofs.Common.{◌+◌, ap, sym, subst, arith}
use Rattle.ring_rule.specs.Marks.{WriterMark}
use Rattle.ring_rule.specs.Plays.{writer_in, MayPublish}
use Rattle.ring_rule.specs.Key.{key_ring}
use Rattle.ring_rule.proofs.Seated.{writer_words, may_publish}
use Rattle.ring_rule.proofs.writer.WriterSeat.store_head.Goals as goal

pub store-requires : goal.store-requires
store-requires g c =
    let s = c.self.inside in
    let i = c.self.invariant in
    let words = writer_words i in
    let may : MayPublish (writer_in s.seat.me.0) = subst (λ (m : WriterMark). MayPublish m.view) (sym c.self.view_is) c.requires in
    (i.table, omega arith, may_publish (key_ring g.D.Deal.rows g.D.Deal.size s.shared.now.key) s.shared.now.table_id.slots s.seat.id s.seat.me (writer_in s.seat.me.0) i.me_is (s.head + 1) (ap (λ n. n + 1) i.head_is) may)
