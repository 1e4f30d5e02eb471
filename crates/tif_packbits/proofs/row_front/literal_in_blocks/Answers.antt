use Rattle.std.proofs.Common.{arith}
use Rattle.tif_packbits.proofs.Pairs.{literal_goes_on, literal_ends}
use Rattle.tif_packbits.proofs.row_front.literal_in_blocks.Goals as goal

pub returns-then-runs-ne0-clause-within : goal.returns-then-runs-ne0-clause-within
returns-then-runs-ne0-clause-within c =
    let ends : _ = literal_ends c.args.row.now c.pairs-pairs.result c.loop-at.at c.if-at-row.true c.pairs-pairs.ensures c.if-runs-ne0.true c.loop-at.invariant.1 in
    omega (arith, ends.0, c.if-at-row.true)

pub returns-then-runs-ne0-clause-none : goal.returns-then-runs-ne0-clause-none
returns-then-runs-ne0-clause-none c =
    (literal_ends c.args.row.now c.pairs-pairs.result c.loop-at.at c.if-at-row.true c.pairs-pairs.ensures c.if-runs-ne0.true c.loop-at.invariant.1).1

pub loop-at-preserved : goal.loop-at-preserved
loop-at-preserved c =
    (omega arith, literal_goes_on c.args.row.now c.pairs-pairs.result c.loop-at.at c.if-at-row.true c.pairs-pairs.ensures c.if-runs-ne0.false c.loop-at.invariant.1)
