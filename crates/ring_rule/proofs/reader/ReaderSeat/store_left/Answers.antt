use Rattle.std.proofs.Common.{◌≡◌, ◌+◌, false, sym, subst}
use Rattle.ring_rule.specs.Marks.{ReaderMark}
use Rattle.ring_rule.specs.Plays.{reader_in}
use Rattle.ring_rule.specs.Key.{key_ring}
use Rattle.ring_rule.proofs.Seated.{reader_word, reader_index, may_leave, empty_hands}
use Rattle.ring_rule.proofs.reader.ReaderSeat.store_left.Goals as goal

pub store-requires : goal.store-requires
store-requires g c =
    let s = c.self.inside in
    let i = c.self.invariant in
    let joined : (reader_in s.seat.me.0).left ≡ false = subst (λ (m : ReaderMark). m.view.left ≡ false) (sym c.self.view_is) c.requires.joined in
    let home : (reader_in s.seat.me.0).out ≡ false = subst (λ (m : ReaderMark). m.view.out ≡ false) (sym c.self.view_is) c.requires.home in
    (i.table, reader_word i, may_leave (key_ring g.D.Deal.rows g.D.Deal.size s.shared.now.key) s.shared.now.table_id.slots s.seat.id s.seat.me (reader_in s.seat.me.0) (s.number + 1) (empty_hands s.seat.me i.me_is home) (reader_index i) joined home)
