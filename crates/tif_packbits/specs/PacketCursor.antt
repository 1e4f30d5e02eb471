-- A position in packed bytes.
use Rattle.std.specs.Prelude.{ℕ, List, ◌++◌, drop}
use Rattle.tif_packbits.specs.declared.packet_cursor.PacketCursor.TheInside.{Inside}
use Rattle.tif_packbits.specs.Packbits.{expansion}
use Rattle.tif_packbits.specs.Packet.{left_of}

-- the packed bytes, and what is still to come of their expansion
pub record Packets : Type 0 where
  pub packed : List ℕ
  pub ahead : List ℕ

-- the rest of the current packet, then the expansion of the packets after it
abbrev pub packets_ahead : Inside → List ℕ
packets_ahead cursor = left_of cursor.packet ++ expansion (drop cursor.next cursor.packed.now)
