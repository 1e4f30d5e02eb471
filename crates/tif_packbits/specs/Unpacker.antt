-- The bytes that an unpacker still has to produce.
use Rattle.std.specs.Prelude.{ℕ, List, ◌++◌}
use Rattle.tif_packbits.specs.declared.unpacker.Unpacker.TheInside.{Inside}
use Rattle.tif_packbits.specs.Packbits.{expansion}
use Rattle.tif_packbits.specs.Packet.{left_of}

-- the rest of the current packet, then the expansion of the packets after it
abbrev pub bytes_ahead : Inside → List ℕ
bytes_ahead unpacker = left_of unpacker.packet ++ expansion unpacker.rest.now
