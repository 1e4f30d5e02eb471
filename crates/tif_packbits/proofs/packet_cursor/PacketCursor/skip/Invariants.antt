use Rattle.std.proofs.Common.{◌≡◌, ◌≤◌, ◌-◌, length}
use Rattle.tif_packbits.specs.PacketCursor.{packets_ahead}
use Rattle.tif_packbits.proofs.Pieces.{HasPassed}
use Rattle.tif_packbits.proofs.packet_cursor.PacketCursor.skip.Given as goal

abbrev pub invariant-loop-most : goal.invariant-loop-most
invariant-loop-most l = record {
  same : l.self-inside.packed.now ≡ l.initial.self-inside.packed.now;
  within : l.self-inside.next ≤ length l.self-inside.packed.now;
  passed : HasPassed (packets_ahead l.initial.self-inside) (packets_ahead l.self-inside) l.n l.most;
}

abbrev pub decreases-loop-most : goal.decreases-loop-most
decreases-loop-most l = length l.self-inside.packed.now - l.self-inside.next
