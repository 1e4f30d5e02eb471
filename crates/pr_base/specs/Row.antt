-- Rows of one-bit pixels, and lists of rows.
use Rattle.std.specs.Prelude.{◌≡◌, ℕ, ◌+◌, ◌/◌, List, [], ◌∷◌, length}

-- the bytes in a row of width one-bit pixels (TIFF 6.0, Section 3: rows begin on byte boundaries)
abbrev pub row_size : ℕ → ℕ
row_size width = (width + 7) / 8

-- a next row exists, and its length in bytes is size
abbrev pub FitsNext : List (List ℕ) → ℕ → Type 0
FitsNext [] size = ⊥
FitsNext (row ∷ rows) size = size ≡ length row
