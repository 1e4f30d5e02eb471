use Rattle.std.proofs.Common.{◌≡◌, false, ap, sym, ◌∙◌, subst, arith}
use Rattle.ring_rule.specs.Marks.{ReaderMark}
use Rattle.ring_rule.specs.Plays.{Sat, reader_in, reader_met, IsPastHead}
use Rattle.ring_rule.specs.Key.{key_ring}
use Rattle.ring_rule.proofs.Seated.{reader_words, may_meet_head, may_see, reader_after, told_head}
use Rattle.ring_rule.proofs.reader.ReaderSeat.meet.Goals as goal

pub join_seat-requires : goal.join_seat-requires
join_seat-requires g c =
    let s = c.self.inside in
    let i = c.self.invariant in
    let words = reader_words i in
    let own : c.args.note.table ≡ s.seat.table_id = subst (λ (m : ReaderMark). c.args.note.table ≡ m.table) (sym c.self.view_is) c.requires.table in
    let held = ap (λ (m : Sat). m.1) c.into_seat.ensures.me in (
      i.table,
      c.into_seat.ensures.table ∙ (own ∙ i.table),
      held,
      omega arith,
      may_meet_head (key_ring g.D.Deal.rows g.D.Deal.size s.shared.now.key) s.shared.now.table_id.slots s.seat.id s.seat.me (reader_in s.seat.me.0) c.into_seat.result.id c.into_seat.result.me c.args.note.note i.me_is c.into_seat.ensures.me,
    )

pub load-found-requires : goal.load-found-requires
load-found-requires g c =
    let s = c.self.inside in
    let i = c.self.invariant in
    let x = reader_in s.seat.me.0 in
    let table = c.join_seat.ensures.0 ∙ i.table in
    let words = reader_words i in
    let me = reader_after s.seat.me c.into_seat.result.me c.join_seat.new.seat.me c.args.note.note i.me_is c.into_seat.ensures.me c.join_seat.ensures.2 in
    let joined : x.left ≡ false = subst (λ (m : ReaderMark). m.view.left ≡ false) (sym c.self.view_is) c.requires.joined in (
      table,
      omega arith,
      may_see (key_ring g.D.Deal.rows g.D.Deal.size s.shared.now.key) s.shared.now.table_id.slots c.join_seat.new.seat.id c.join_seat.new.seat.me (reader_met c.args.note.note x) me joined,
    )

pub returns-clause-told : goal.returns-clause-told
returns-clause-told g c =
    let s = c.self.inside in
    let i = c.self.invariant in
    let me = reader_after s.seat.me c.into_seat.result.me c.join_seat.new.seat.me c.args.note.note i.me_is c.into_seat.ensures.me c.join_seat.ensures.2 in
    subst (λ (m : ReaderMark). IsPastHead c.args.note.note m.view.number c.load-found.result) c.self.view_is
    (told_head s.shared.now.table_id.slots c.load-found.result s.seat.me c.join_seat.new.seat.me c.load-found.new.seat.me c.args.note.note me c.load-found.ensures.2)
