use Rattle.std.proofs.Common.{◌≡◌, length}
use Rattle.tif_packbits.proofs.Nothings.{past}
use Rattle.tif_packbits.proofs.packet.past_nothings.Given as goal

abbrev pub invariant-loop-rest : goal.invariant-loop-rest
invariant-loop-rest l = past l.fn.packed ≡ past l.rest

abbrev pub decreases-loop-rest : goal.decreases-loop-rest
decreases-loop-rest l = length l.rest
