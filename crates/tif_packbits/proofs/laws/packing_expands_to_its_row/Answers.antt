use Rattle.tif_packbits.proofs.Packing.{packing_expands}
use Rattle.tif_packbits.proofs.laws.packing_expands_to_its_row.Goals as goal

pub returns : goal.returns
returns c = packing_expands
