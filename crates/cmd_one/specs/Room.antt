-- The buffers of one row of a plate, for the contracts of private calls.
use Rattle.std.specs.Prelude.{◌≡◌, ◌≤◌, ◌*◌, ℕ, length, false}
use Rattle.pr_base.specs.Row.{row_size}
use Rattle.pr_base.specs.Bits.{bit_at}
use Rattle.tif_packbits.specs.Packbits.{packed_bound}
use Rattle.cmd_one.specs.declared.room.RowRoom.{RowRoom}

-- the buffers fit a row of `width` pixels, and its padding bits are 0
pub record FitsRow (width : ℕ) (room : RowRoom) : Type 0 where
  pub pixels : length room.pixels.items ≡ 4 * width
  pub black : length room.black.items ≡ width
  pub bits : length room.bits.items ≡ row_size width
  pub padding : (x : ℕ) → width ≤ x → bit_at room.bits.items x ≡ false
  pub packed : length room.packed.items ≡ packed_bound (row_size width)
