use Rattle.tif_packbits.proofs.Frames.{frame_of-tells}
use Rattle.tif_packbits.proofs.laws.frame_tells_its_row.Goals as goal

pub returns : goal.returns
returns c = frame_of-tells
