-- How far packed bytes were gone over.
use Rattle.std.specs.Prelude.{◌≡◌, ℕ, ◌-◌, ◌*◌, ◌≤◌, List, length, drop}
use Rattle.tif_packbits.specs.Packbits.{expansion}
use Rattle.tif_packbits.specs.PacketCursor.{Packets}

-- Of n bytes of the expansion all but `left` were skipped. k marks were set, one each `step` bytes, unless
-- fewer bytes than that are left.
pub record Reached (stored : List ℕ) (n step k left : ℕ) (cursor : Packets) : Type 0 where
  pub packed_is : cursor.packed ≡ stored
  pub ahead_is : cursor.ahead ≡ drop (n - left) (expansion stored)
  pub of_n : left ≤ n
  pub inside : n - left ≤ length (expansion stored)
  pub at : step ≤ left → n - left ≡ k * step
