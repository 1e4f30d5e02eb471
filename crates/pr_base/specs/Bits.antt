-- One-bit pixels in bytes: eight per byte, lower columns in higher-order bits
-- (TIFF 6.0, Section 8, FillOrder 1).
use Rattle.std.specs.Prelude.{◌≡◌, ◌<◌, ◌≤◌, ℕ, ◌+◌, ◌-◌, ◌*◌, ◌/◌, ◌%◌, ◌^◌, ◌==◌, ◌&&◌, Bool, cond, nat_lt}
use Rattle.std.specs.Prelude.{List, map, slice_index}
use Rattle.std.specs.List.{range_with_len}
use Rattle.pr_base.specs.Row.{row_size}

-- whether pixel x of the eight in a byte is 1
abbrev pub byte_bit : ℕ → ℕ → Bool
byte_bit byte x = byte / 2 ^ (7 - x) % 2 == 1

-- whether pixel x of a row of bytes is 1: bit 7 - x mod 8 of byte x / 8; false past the end
abbrev pub bit_at : List ℕ → ℕ → Bool
bit_at bytes x = byte_bit (slice_index bytes (x / 8)) (x % 8)

-- the `n` pixels from index `from` on have the values of `test` at 0 to n - 1; all other pixels are unchanged
pub record SetsBits (test : ℕ → Bool) (from n : ℕ) (old new : List ℕ) : Type 0 where
  pub inside : (x : ℕ) → x < n → bit_at new (from + x) ≡ test x
  pub before : (k : ℕ) → k < from → bit_at new k ≡ bit_at old k
  pub behind : (k : ℕ) → from + n ≤ k → bit_at new k ≡ bit_at old k

-- a pixel as a number, 1 if set
abbrev pub bit_number : Bool → ℕ
bit_number bit = cond bit 1 0

-- eight pixels packed into a byte
abbrev pub packed_byte : (ℕ → Bool) → ℕ
packed_byte bit =
    128 * bit_number (bit 0) + 64 * bit_number (bit 1) + 32 * bit_number (bit 2) + 16 * bit_number (bit 3)
    + 8 * bit_number (bit 4) + 4 * bit_number (bit 5) + 2 * bit_number (bit 6) + bit_number (bit 7)

-- width pixels packed into a row of bytes (TIFF 6.0, Section 3), padding bits 0
unfoldable pub packed_row : ℕ → (ℕ → Bool) → List ℕ
packed_row width bit =
    map
    (λ j. packed_byte (λ k. nat_lt (8 * j + k) width && bit (8 * j + k)))
    (range_with_len 0 (row_size width))
