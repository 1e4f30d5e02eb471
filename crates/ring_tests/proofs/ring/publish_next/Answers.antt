use Rattle.std.proofs.Common.{ap, sym, ◌∙◌, subst, arith}
use Rattle.std.specs.Prelude.{Some}
use Rattle.ring_lanes.specs.Writer.{WriterState}
use Rattle.ring_tests.specs.Numbered.{IsFeeding}
use Rattle.ring_tests.proofs.Ends.{all_rows, next_row}
use Rattle.ring_tests.proofs.ring.publish_next.Goals as goal

pub room-requires : goal.room-requires
room-requires c =
    let f = c.requires.feeding in
    let total = all_rows c.args.total c.args.head c.args.writer.now f in
    let at = f.at in
    let below = c.requires.row in
    omega arith

pub publish-requires-clause-row : goal.publish-requires-clause-row
publish-requires-clause-row c =
    let f = c.requires.feeding in
    let later : IsFeeding c.args.total c.args.head c.room.new.self = subst (λ (w : WriterState). IsFeeding c.args.total c.args.head w) (sym c.room.ensures.same) record { rows = f.rows; count = f.count; at = f.at } in
    next_row c.args.total c.args.head c.room.new.self later c.requires.row ∙ ap Some (sym c.row_bytes.ensures)
