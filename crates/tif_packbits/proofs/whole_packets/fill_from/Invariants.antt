use Rattle.std.proofs.Common.{length, ◌++◌}
use Rattle.tif_packbits.specs.Packbits.{expansion}
use Rattle.tif_packbits.specs.Packet.{left_of}
use Rattle.tif_packbits.specs.WholePackets.{IsThrough}
use Rattle.tif_packbits.proofs.Pieces.{HasGiven}
use Rattle.tif_packbits.proofs.whole_packets.fill_from.Given as goal

-- the bytes so far are given, by whole packets and the one that was begun last
abbrev pub invariant-loop-at : goal.invariant-loop-at
invariant-loop-at l = HasGiven (expansion l.packed) l.initial.into l.into (left_of l.packet ++ expansion l.rest) l.at
    × IsThrough l.packed (left_of l.packet) l.rest l.at

abbrev pub decreases-loop-at : goal.decreases-loop-at
decreases-loop-at l = length l.rest
