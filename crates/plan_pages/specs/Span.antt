-- Setting pixels in a row of bytes, while keeping those already set.
use Rattle.std.specs.Prelude.{◌≡◌, ℕ, ◌/◌, ◌%◌, ◌==◌, ◌&&◌, ◌||◌, Bool, nat_le, nat_lt, List}
use Rattle.pr_base.specs.Bits.{bit_at, byte_bit}

-- each pixel of the new row is set if it was set before or passes the test
pub record AddsBits (test : ℕ → Bool) (old new : List ℕ) : Type 0 where
  pub each : (x : ℕ) → bit_at new x ≡ (bit_at old x || test x)

-- the pixels of a mask placed over byte i
abbrev pub in_byte : ℕ → ℕ → ℕ → Bool
in_byte i mask x = x / 8 == i && byte_bit mask (x % 8)

-- the pixels of the bytes in the range from..to
abbrev pub in_bytes : ℕ → ℕ → ℕ → Bool
in_bytes from to x = nat_le from (x / 8) && nat_lt (x / 8) to

-- the pixels in the range from..to
abbrev pub in_span : ℕ → ℕ → ℕ → Bool
in_span from to x = nat_le from x && nat_lt x to
