use Rattle.std.proofs.Common.{◌≡◌, ◌+◌, sym, ◌∙◌, subst}
use Rattle.ring_rule.specs.Marks.{ReaderMark}
use Rattle.ring_rule.specs.Plays.{reader_in, slot_of, MayTake}
use Rattle.ring_rule.specs.Key.{key_ring}
use Rattle.ring_rule.proofs.Seated.{reader_word, reader_index, may_take, empty_hands, reader_slot, taken_slot}
use Rattle.ring_rule.proofs.reader.ReaderSeat.take.Goals as goal

pub load-requires : goal.load-requires
load-requires g c =
    let s = c.self.inside in
    let i = c.self.invariant in
    let may : MayTake (reader_in s.seat.me.0) = subst (λ (m : ReaderMark). MayTake m.view) (sym c.self.view_is) c.requires in
    (i.table, reader_word i, may_take (key_ring g.D.Deal.rows g.D.Deal.size s.shared.now.key) s.shared.now.table_id.slots s.seat.id s.seat.me (reader_in s.seat.me.0) (s.number + 1) (empty_hands s.seat.me i.me_is may.home) (reader_index i) may)

pub exchange-requires : goal.exchange-requires
exchange-requires g c =
    let s = c.self.inside in
    let i = c.self.invariant in
    let x = reader_in s.seat.me.0 in
    let may : MayTake x = subst (λ (m : ReaderMark). MayTake m.view) (sym c.self.view_is) c.requires in
    let slot : slot_of x ≡ c.slot_number-slot.result = reader_slot i ∙ sym c.slot_number-slot.ensures in
    (c.load.ensures.0 ∙ i.table, taken_slot s.seat.me c.load.new.seat.me c.slot_number-slot.result (empty_hands s.seat.me i.me_is may.home) slot c.load.ensures.2)
