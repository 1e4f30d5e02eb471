use Rattle.std.proofs.Common.{arith}
use Rattle.tif_packbits.proofs.Fronts.{run_len_full, run_len_stops}
use Rattle.tif_packbits.proofs.row_front.front_run.Goals as goal

pub returns-else-row-n : goal.returns-else-row-n
returns-else-row-n c =
    run_len_stops c.args.row.now c.loop-n.n (omega arith) (omega arith) c.loop-n.invariant.2 c.if-row-n.false

pub returns-after-loop-n : goal.returns-after-loop-n
returns-after-loop-n c =
    run_len_full c.args.row.now c.loop-n.n c.min-most.result c.loop-n.invariant.0 c.min-most.ensures c.loop-n-test.false c.loop-n.invariant.1 c.loop-n.invariant.2

pub returns-then-n-most : goal.returns-then-n-most
returns-then-n-most c =
    run_len_full c.args.row.now c.min-most.result c.min-most.result (omega arith) c.min-most.ensures (omega arith) (omega arith)
    (λ k less. c.run_in_blocks-n.ensures.equal k (omega arith))
