use Rattle.std.proofs.Common.{◌≡◌, false, sym, subst, arith}
use Rattle.ring_rule.specs.Marks.{ReaderMark}
use Rattle.ring_rule.specs.Plays.{reader_in}
use Rattle.ring_rule.specs.Key.{key_ring}
use Rattle.ring_rule.proofs.Seated.{reader_words, may_see}
use Rattle.ring_rule.proofs.reader.ReaderSeat.see.Goals as goal

pub load-head-requires : goal.load-head-requires
load-head-requires g c =
    let s = c.self.inside in
    let i = c.self.invariant in
    let words = reader_words i in
    let joined : (reader_in s.seat.me.0).left ≡ false = subst (λ (m : ReaderMark). m.view.left ≡ false) (sym c.self.view_is) c.requires in
    (i.table, omega arith, may_see (key_ring g.D.Deal.rows g.D.Deal.size s.shared.now.key) s.shared.now.table_id.slots s.seat.id s.seat.me (reader_in s.seat.me.0) i.me_is joined)
