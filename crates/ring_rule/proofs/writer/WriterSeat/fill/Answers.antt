use Rattle.std.proofs.Common.{◌≡◌, ap, sym, ◌∙◌, refl, subst, arith}
use Rattle.std.specs.Prelude.{Some}
use Rattle.ring_rule.specs.Marks.{WriterMark}
use Rattle.ring_rule.specs.Kept.{row_at}
use Rattle.ring_rule.specs.Plays.{writer_in, slot_for, picked}
use Rattle.ring_rule.specs.Key.{key_ring}
use Rattle.ring_rule.proofs.Seated.{writer_words, may_place, writer_slot, picked_slot, placed_slot}
use Rattle.ring_rule.proofs.writer.WriterSeat.fill.Goals as goal

pub exchange-requires : goal.exchange-requires
exchange-requires g c =
    let s = c.self.inside in
    let i = c.self.invariant in
    let slot : slot_for (writer_in s.seat.me.0) c.args.reader ≡ c.slot_number-slot.result = writer_slot c.args.reader i ∙ sym c.slot_number-slot.ensures in
    (c.pick.ensures.table ∙ i.table, picked_slot s.seat.me c.pick.new.seat.me c.args.reader c.slot_number-slot.result i.me_is slot c.pick.ensures.picked)

pub load-requires : goal.load-requires
load-requires g c =
    let s = c.self.inside in
    let i = c.self.invariant in
    let w = writer_in s.seat.me.0 in
    let r = c.args.reader in
    let lane = c.with_row-full.result in
    let table = c.exchange-2.ensures.0 ∙ (c.exchange.ensures.0 ∙ (c.pick.ensures.table ∙ i.table)) in
    let words = writer_words i in
    let slot : slot_for w r ≡ c.slot_number-slot.result = writer_slot r i ∙ sym c.slot_number-slot.ensures in
    let me = placed_slot s.seat.me c.pick.new.seat.me c.exchange.new.seat.me c.exchange-2.new.seat.me r c.slot_number-slot.result lane i.me_is c.pick.ensures.picked c.exchange.ensures.3 c.exchange-2.ensures.3 in
    let bytes : c.args.row.now ≡ row_at w.ring w.head = subst (λ (m : WriterMark). c.args.row.now ≡ row_at m.view.ring m.view.head) (sym c.self.view_is) c.requires.bytes in (
      table,
      omega arith,
      may_place (key_ring g.D.Deal.rows g.D.Deal.size s.shared.now.key) s.shared.now.table_id.slots c.exchange-2.new.seat.id r c.slot_number-slot.result c.exchange-2.new.seat.me (picked r w) lane me (sym slot) refl
          (c.with_row-full.ensures.number ∙ ap Some i.head_is) (c.with_row-full.ensures.bytes ∙ bytes),
    )
