use Rattle.std.proofs.Common.{◌<◌, sym, subst, arith}
use Rattle.ring_rule.specs.Marks.{WriterMark}
use Rattle.ring_rule.specs.Plays.{writer_in}
use Rattle.ring_rule.specs.Key.{key_ring}
use Rattle.ring_rule.proofs.Seated.{writer_words, one_of_readers, may_look, looked_seat}
use Rattle.ring_rule.proofs.writer.WriterSeat.look.Goals as goal

pub load-requires : goal.load-requires
load-requires g c =
    let s = c.self.inside in
    let i = c.self.invariant in
    let words = writer_words i in
    let in_range = one_of_readers c.args.reader i (subst (λ (m : WriterMark). c.args.reader < m.view.ring.readers) (sym c.self.view_is) c.requires) in
    (i.table, omega arith, may_look (key_ring g.D.Deal.rows g.D.Deal.size s.shared.now.key) s.shared.now.table_id.slots s.seat.id s.seat.me (writer_in s.seat.me.0) i.me_is c.args.reader in_range i.hand)

pub invariant_of-self : goal.invariant_of-self
invariant_of-self g c =
    let s = c.self.inside in
    looked_seat c.load.new.seat.table_id s.shared.now.table_id.slots c.args.reader c.load.result c.load.new.seat.me c.self.invariant c.load.ensures.0 c.load.ensures.2
