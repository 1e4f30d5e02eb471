use Rattle.std.proofs.Common.{◌≡◌, ◌+◌, true, ap, sym, ◌∙◌, subst}
use Rattle.std.specs.Prelude.{Some}
use Rattle.ring_rule.specs.Marks.{ReaderMark}
use Rattle.ring_rule.specs.Kept.{row_at}
use Rattle.ring_rule.specs.Plays.{reader_in, slot_of}
use Rattle.ring_rule.specs.Key.{key_ring}
use Rattle.ring_rule.proofs.Seated.{reader_word, reader_index, may_give, reader_slot, held_out, filled_slot, given_seat}
use Rattle.ring_rule.proofs.reader.ReaderSeat.give.Goals as goal

pub load-requires : goal.load-requires
load-requires g c =
    let s = c.self.inside in
    let i = c.self.invariant in
    let x = reader_in s.seat.me.0 in
    let lane = c.into_lane-lane.result in
    let table = c.exchange.ensures.0 ∙ i.table in
    let out : x.out ≡ true = subst (λ (m : ReaderMark). m.view.out ≡ true) (sym c.self.view_is) c.requires.out in
    let taken : c.args.row.number ≡ x.taken = subst (λ (m : ReaderMark). c.args.row.number ≡ m.view.taken) (sym c.self.view_is) c.requires.number in
    let bytes : c.args.row.bytes ≡ row_at x.ring x.taken = subst (λ (m : ReaderMark). c.args.row.bytes ≡ row_at m.view.ring m.view.taken) (sym c.self.view_is) c.requires.bytes in
    let slot : slot_of x ≡ c.slot_number-home.result = reader_slot i ∙ sym c.slot_number-home.ensures in
    let me = filled_slot s.seat.me c.exchange.new.seat.me c.slot_number-home.result lane (held_out s.seat.me i.me_is out) c.exchange.ensures.3 in (
      table,
      reader_word i,
      may_give (key_ring g.D.Deal.rows g.D.Deal.size s.shared.now.key) s.shared.now.table_id.slots c.exchange.new.seat.id c.exchange.new.seat.me x (s.number + 1) c.slot_number-home.result lane me (reader_index i) (sym slot) out
          (c.into_lane-lane.ensures.number ∙ ap Some taken) (c.into_lane-lane.ensures.bytes ∙ bytes),
    )

pub invariant_of-self : goal.invariant_of-self
invariant_of-self g c =
    let s = c.self.inside in
    let i = c.self.invariant in
    let x = reader_in s.seat.me.0 in
    let ring = key_ring g.D.Deal.rows g.D.Deal.size s.shared.now.key in
    let out : x.out ≡ true = subst (λ (m : ReaderMark). m.view.out ≡ true) (sym c.self.view_is) c.requires.out in
    let me = filled_slot s.seat.me c.exchange.new.seat.me c.slot_number-home.result c.into_lane-lane.result (held_out s.seat.me i.me_is out) c.exchange.ensures.3 in
    given_seat ring s.shared.now.table_id s.seat.table_id c.load.new.seat.table_id s.number s.places s.cursor s.seen c.slot_number-home.result s.closed c.into_lane-lane.result s.seat.me c.exchange.new.seat.me c.load.new.seat.me
    i out (c.load.ensures.0 ∙ c.exchange.ensures.0) me c.load.ensures.2
