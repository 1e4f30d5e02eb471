use Rattle.std.proofs.Common.{arith}
use Rattle.tif_packbits.proofs.Pairs.{run_goes_on}
use Rattle.tif_packbits.proofs.row_front.run_in_blocks.Goals as goal

pub returns-then-equal-lt-BLOCK-clause-equal : goal.returns-then-equal-lt-BLOCK-clause-equal
returns-then-equal-lt-BLOCK-clause-equal c =
    let more : _ = run_goes_on c.args.row.now c.pairs.result c.loop-n.n (omega arith) c.if-n-row.true c.pairs.ensures c.loop-n.invariant.2 in
    λ k less. more.1 k (omega (arith, c.trailing_ones-equal.ensures))

pub loop-n-preserved : goal.loop-n-preserved
loop-n-preserved c =
    let more : _ = run_goes_on c.args.row.now c.pairs.result c.loop-n.n (omega arith) c.if-n-row.true c.pairs.ensures c.loop-n.invariant.2 in
    (omega arith, omega (arith, more.0, c.trailing_ones-equal.ensures), λ k less. more.1 k (omega (arith, c.trailing_ones-equal.ensures)))
