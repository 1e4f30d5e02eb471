use Rattle.tif_packbits.proofs.Pairs.{literal_by_pairs}
use Rattle.tif_packbits.proofs.row_front.first_run.Goals as goal

pub returns : goal.returns
returns c = literal_by_pairs c.args.row.now c.args.pairs c.requires.block c.requires.pairs c.if-runs-eq0.false
