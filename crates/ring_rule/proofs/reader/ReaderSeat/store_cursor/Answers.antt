use Rattle.std.proofs.Common.{◌≡◌, ◌+◌, true, ap, sym, subst}
use Rattle.ring_rule.specs.Marks.{ReaderMark}
use Rattle.ring_rule.specs.Plays.{reader_in}
use Rattle.ring_rule.specs.Key.{key_ring}
use Rattle.ring_rule.proofs.Seated.{reader_word, reader_index, may_advance, empty_hands}
use Rattle.ring_rule.proofs.reader.ReaderSeat.store_cursor.Goals as goal

pub store-requires : goal.store-requires
store-requires g c =
    let s = c.self.inside in
    let i = c.self.invariant in
    let may = i.closed_fits (subst (λ (m : ReaderMark). m.closed ≡ true) (sym c.self.view_is) c.requires) in
    (i.table, reader_word i, may_advance (key_ring g.D.Deal.rows g.D.Deal.size s.shared.now.key) s.shared.now.table_id.slots s.seat.id s.seat.me (reader_in s.seat.me.0) (s.number + 1) (s.cursor + 1) (empty_hands s.seat.me i.me_is may.home) (reader_index i) (ap (λ n. n + 1) i.cursor_is) may)
