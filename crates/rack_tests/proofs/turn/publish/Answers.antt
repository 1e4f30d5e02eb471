use Rattle.std.proofs.Common.{Some, sym, ap, subst, ◌∙◌, arith}
use Rattle.ring_lanes.specs.Writer.{WriterState}
use Rattle.rack_tests.specs.Numbered.{IsFeeding}
use Rattle.rack_tests.proofs.Numbered.{next-fed, rows-fed}
use Rattle.rack_tests.proofs.turn.publish.Goals as goal

pub room-requires : goal.room-requires
room-requires g c =
    let total = rows-fed c.args.count c.args.n c.args.writer.now c.requires.feeding in
    let at = c.requires.feeding.at in
    omega arith

pub publish-requires-clause-row : goal.publish-requires-clause-row
publish-requires-clause-row g c =
    let later : IsFeeding c.args.count c.args.n c.room.new.self =
    subst (λ (w : WriterState). IsFeeding c.args.count c.args.n w) (sym c.room.ensures.same) (record { ring = c.requires.feeding.ring; at = c.requires.feeding.at }) in
    next-fed c.args.count c.args.n c.room.new.self later c.requires.row ∙ ap Some (sym c.frame.ensures)
