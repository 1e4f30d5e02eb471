use Rattle.std.proofs.Common.{length, ◌++◌}
use Rattle.tif_packbits.specs.Packbits.{expansion}
use Rattle.tif_packbits.specs.Packet.{left_of}
use Rattle.tif_packbits.proofs.Pieces.{HasGiven}
use Rattle.tif_packbits.proofs.unpacker.Unpacker.fill.Given as goal

abbrev pub invariant-loop-at : goal.invariant-loop-at
invariant-loop-at l = HasGiven (left_of l.initial.packet ++ expansion l.initial.rest) l.initial.into l.into (left_of l.packet ++ expansion l.rest) l.at

abbrev pub decreases-loop-at : goal.decreases-loop-at
decreases-loop-at l = length l.rest
