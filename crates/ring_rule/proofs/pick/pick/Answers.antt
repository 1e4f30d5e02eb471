use Rattle.std.proofs.Common.{subst, arith}
use mathlib.Core.Option.{none}
use Rattle.atomic_table.specs.Table.{step, Allows}
use Rattle.ring_rule.specs.Kept.{Kept}
use Rattle.ring_rule.specs.Plays.{writer_in, PicksAt}
use Rattle.ring_rule.specs.Key.{key_ring}
use Rattle.ring_rule.proofs.Seated.{writer_words, may_pick}
use Rattle.ring_rule.proofs.pick.pick.Goals as goal

pub load-requires : goal.load-requires
load-requires g c =
    let seat = c.args.seat.now in
    let table = c.args.shared.now.table_id in
    let i = c.requires.seat in
    let w = writer_in seat.me.0 in
    let ring = key_ring g.D.Deal.rows g.D.Deal.size c.args.shared.now.key in
    let words = writer_words i in (
      i.table,
      omega arith,
      subst (λ r. Allows (Kept ring) table.slots seat.id seat.me 0 (λ n. n) (PicksAt r (step table.slots 0 0 0 none) seat.me)) c.requires.chosen
          (may_pick ring table.slots seat.id seat.me w i.me_is c.args.reader i.hand c.requires.may),
    )
