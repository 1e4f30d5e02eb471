use Rattle.tif_packbits.proofs.Pairs.{run_by_pairs}
use Rattle.tif_packbits.proofs.row_front.run_by.Goals as goal

pub returns-then-equal-count : goal.returns-then-equal-count
returns-then-equal-count c =
    run_by_pairs c.args.row.now c.args.pairs c.args.count c.trailing_ones-equal.result c.requires.count c.requires.more c.requires.pairs c.trailing_ones-equal.ensures c.if-equal-count.true
