use Rattle.tif_packbits.proofs.Few.{first_lanes}
use Rattle.tif_packbits.proofs.bytes.copy_few.Goals as goal

pub returns : goal.returns
returns c = first_lanes c.args.from.now c.args.into.now c.args.n c.requires.few c.requires.from c.requires.into
