-- The mask of the comparison is a byte with a bit for each lane.
use Rattle.scr_diffuse.proofs.LaneLemmas.{byte_bits, byte_fits}
use Rattle.scr_diffuse.proofs.lanes.dots_of.Goals as goal

pub overflow_cast-result : goal.overflow_cast-result
overflow_cast-result c = record { fits = byte_fits c.args.sums c.requires }

pub returns : goal.returns
returns c = λ k within fits. byte_bits c.args.sums k c.requires within fits
