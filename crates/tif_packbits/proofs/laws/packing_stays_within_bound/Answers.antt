use Rattle.tif_packbits.proofs.Packing.{packing_bounded}
use Rattle.tif_packbits.proofs.laws.packing_stays_within_bound.Goals as goal

pub returns : goal.returns
returns c = packing_bounded
