-- The packed row of a plate that contains an offset. The packed rows are contiguous from byte 8 on.
use Rattle.std.specs.Prelude.{ℕ, ◌+◌, ◌<◌, ◌≤◌, Bool, ◌&&◌, List, ◌∷◌, length, slice_index, map, take, find}
use Rattle.std.specs.Prelude.{nat_le, nat_lt, Option}
use Rattle.std.specs.List.{flat_map, range_with_len}
use Rattle.tif_packbits.specs.Packbits.{packing}

-- the offset of packed row y: after the first eight bytes and the rows before it
abbrev pub row_start : List (List ℕ) → ℕ → ℕ
row_start rows y = 8 + length (flat_map packing (take y rows))

-- the offset of the end of each packed row
unfoldable pub row_ends : List (List ℕ) → List ℕ
row_ends rows = map (λ y. row_start rows (y + 1)) (range_with_len 0 (length rows))

-- whether packed row y contains an offset
abbrev pub holds_offset : List (List ℕ) → ℕ → ℕ → Bool
holds_offset rows at y = nat_le (row_start rows y) at && nat_lt at (row_start rows (y + 1))

-- the row whose packing contains an offset; none before the first row or after the last one
unfoldable pub row_holding : List (List ℕ) → ℕ → Option ℕ
row_holding rows at = find (holds_offset rows at) (range_with_len 0 (length rows))

-- exactly n rows end at or before an offset
pub record IsSeam (ends : List ℕ) (at n : ℕ) : Type 0 where
  pub within : n ≤ length ends
  pub before : slice_index (8 ∷ ends) n ≤ at
  pub behind : n < length ends → at < slice_index ends n
