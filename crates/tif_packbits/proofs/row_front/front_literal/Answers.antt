use Rattle.std.proofs.Common.{arith, inl, inr}
use Rattle.tif_packbits.proofs.Fronts.{begins_run-here, literal_len_stops, literal_len_full}
use Rattle.tif_packbits.proofs.row_front.front_literal.Goals as goal

pub returns-then-row-at-2 : goal.returns-then-row-at-2
returns-then-row-at-2 c =
    literal_len_stops c.args.row.now c.loop-at.at (omega arith) (omega arith) c.loop-at.invariant
    (begins_run-here c.args.row.now c.loop-at.at c.if-at-row.true c.if-row-at-2.true c.if-row-at.false)

pub returns-else-at-row : goal.returns-else-at-row
returns-else-at-row c =
    literal_len_full c.args.row.now c.min-most.result c.loop-at.at c.min-most.ensures c.loop-at.invariant (inr c.if-at-row.false)

pub returns-after-loop-at : goal.returns-after-loop-at
returns-after-loop-at c =
    literal_len_full c.args.row.now c.min-most.result c.loop-at.at c.min-most.ensures c.loop-at.invariant (inl c.loop-at-test.false)
