-- The rest of a packet that an unpacker has started.
use Rattle.std.specs.Prelude.{ℕ, List, replicate}
use Rattle.tif_packbits.specs.declared.packet.Packet.{Packet}
use Rattle.tif_packbits.specs.declared.packet.Packet.TheVariants.{Literal, Repeat}

-- the bytes of a packet still to be produced
abbrev pub left_of : Packet → List ℕ
left_of (Literal bytes) = bytes.now
left_of (Repeat byte count) = replicate count byte
