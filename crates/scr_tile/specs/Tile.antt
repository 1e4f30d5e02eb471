-- Threshold tiles: the index matrix of ordered dither (Bayer 1973), its thresholds, and the bit of a pixel.
use Rattle.std.specs.Prelude.{◌≡◌, ℕ, ◌+◌, ◌*◌, ◌/◌, ◌%◌, ◌^◌, ◌<◌, ◌≤◌, ◌⊎◌, zero, suc, Bool, true, false}
use Rattle.std.specs.Prelude.{nat_lt, nat_le, List, [], slice_index, slice_index_or, length, count_by}
use Rattle.std.specs.List.{range_with_len}

-- the exponent of n, a power of two
abbrev pub doublings : ℕ → ℕ
doublings n = count_by (λ k. nat_le (2 ^ k) n) (range_with_len 1 n)

-- the number of a quarter of a matrix, which is on the right or not, and at the bottom or not
abbrev pub quarter : Bool → Bool → ℕ
quarter false false = 0
quarter true false = 2
quarter false true = 3
quarter true true = 1

-- the index in column x and row y of the matrix of side 2 ^ e (Bayer 1973): each quarter is four times the
-- matrix of half the side, plus the number of the quarter
unfoldable pub index_in : ℕ → ℕ → ℕ → ℕ
index_in zero x y = 0
index_in (suc e) x y =
    4 * index_in e (x % 2 ^ e) (y % 2 ^ e) + quarter (nat_le (2 ^ e) x) (nat_le (2 ^ e) y)

-- the index in column x and row y of the matrix of side n, a power of two
abbrev pub bayer_index : ℕ → ℕ → ℕ → ℕ
bayer_index n x y = index_in (doublings n) x y

-- the threshold of the pixel in column x and row y, with the matrix of side n repeated edge to edge
abbrev pub threshold_at : ℕ → ℕ → ℕ → ℕ
threshold_at n x y = bayer_index n (x % n) (y % n) * 255 / n ^ 2

-- the bit of a value under a threshold: a pixel prints where its value is above the threshold
abbrev pub tile_bit : ℕ → ℕ → Bool
tile_bit value threshold = nat_lt threshold value

-- the number in column x and row y of a list of rows
abbrev pub number_at : List (List ℕ) → ℕ → ℕ → ℕ
number_at rows x y = slice_index (slice_index_or rows y []) x

-- a custom tile: its sides in pixels, and its thresholds row by row
pub record Numbers : Type 0 where
  pub width : ℕ
  pub height : ℕ
  pub at : List ℕ

-- the sides for which Bayer tiles are built
abbrev pub IsBayerSide : ℕ → Type 0
IsBayerSide n = (n ≡ 2) ⊎ (n ≡ 4) ⊎ (n ≡ 8) ⊎ (n ≡ 16)

-- the side of a tile, in pixels
abbrev pub IsSide : ℕ → Type 0
IsSide n = (1 ≤ n) × (n ≤ 64)

-- the first n numbers of a list are a row, repeated
abbrev pub Repeats : List ℕ → ℕ → List ℕ → Type 0
Repeats row n numbers = (k : ℕ) → k < n → slice_index numbers k ≡ slice_index row (k % length row)
