use Rattle.std.proofs.Common.{◌≡◌, ◌<◌, ap, sym, ◌∙◌, subst, arith}
use Rattle.atomic_table.specs.Seated.{TableId}
use Rattle.ring_rule.specs.Marks.{WriterMark}
use Rattle.ring_rule.specs.Plays.{Sat, writer_in, writer_met}
use Rattle.ring_rule.specs.Key.{key_ring}
use Rattle.ring_rule.proofs.Seated.{writer_words, may_meet, may_look, writer_after, met_writer_seat, looked_seat, told_past}
use Rattle.ring_rule.proofs.writer.WriterSeat.meet.Goals as goal

pub join_seat-requires : goal.join_seat-requires
join_seat-requires g c =
    let s = c.self.inside in
    let i = c.self.invariant in
    let words = writer_words i in
    let own : c.args.note.table ≡ s.seat.table_id = subst (λ (m : WriterMark). c.args.note.table ≡ m.table) (sym c.self.view_is) c.requires in
    let held = ap (λ (m : Sat). m.1) c.into_seat.ensures.me in (
      i.table,
      c.into_seat.ensures.table ∙ (own ∙ i.table),
      held,
      omega arith,
      may_meet (key_ring g.D.Deal.rows g.D.Deal.size s.shared.now.key) s.shared.now.table_id.slots s.seat.id s.seat.me (writer_in s.seat.me.0) i.me_is c.into_seat.result.id c.into_seat.result.me c.args.note.note c.into_seat.ensures.me,
    )

pub load-requires : goal.load-requires
load-requires g c =
    let s = c.self.inside in
    let i = c.self.invariant in
    let words = writer_words i in
    let count = i.words in
    let own : c.args.note.table ≡ s.seat.table_id = subst (λ (m : WriterMark). c.args.note.table ≡ m.table) (sym c.self.view_is) c.requires in
    let same : c.args.note.table.words ≡ s.seat.table_id.words = ap (λ (t : TableId). t.words) own in
    let word = c.number-number.ensures.word in
    let in_range : c.number-number.result < (key_ring g.D.Deal.rows g.D.Deal.size s.shared.now.key).readers = omega arith in
    let me = writer_after s.seat.me c.into_seat.result.me c.join_seat.new.seat.me c.args.note.note i.me_is c.into_seat.ensures.me c.join_seat.ensures.2 in (
      c.join_seat.ensures.0 ∙ i.table,
      omega arith,
      may_look (key_ring g.D.Deal.rows g.D.Deal.size s.shared.now.key) s.shared.now.table_id.slots c.join_seat.new.seat.id c.join_seat.new.seat.me (writer_met c.args.note.note (writer_in s.seat.me.0)) me c.number-number.result in_range i.hand,
    )

pub invariant_of-self : goal.invariant_of-self
invariant_of-self g c =
    let s = c.self.inside in
    let i = c.self.invariant in
    let mid = c.join_seat.new.seat in
    let me = writer_after s.seat.me c.into_seat.result.me mid.me c.args.note.note i.me_is c.into_seat.ensures.me c.join_seat.ensures.2 in
    let seat = met_writer_seat mid.table_id mid.me c.args.note.note i c.join_seat.ensures.0 me in
    looked_seat c.load.new.seat.table_id s.shared.now.table_id.slots c.number-number.result c.load.result c.load.new.seat.me seat c.load.ensures.0 c.load.ensures.2

pub returns-clause-told : goal.returns-clause-told
returns-clause-told g c =
    let s = c.self.inside in
    let i = c.self.invariant in
    let mid = c.join_seat.new.seat in
    let me = writer_after s.seat.me c.into_seat.result.me mid.me c.args.note.note i.me_is c.into_seat.ensures.me c.join_seat.ensures.2 in
    told_past s.shared.now.table_id.slots c.number-number.result c.load.result s.seat.me mid.me c.load.new.seat.me c.args.note.note me (sym c.number-number.ensures.number) c.load.ensures.2
