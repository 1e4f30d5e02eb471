-- Eight rows of one page at once, each three columns behind the one above it.
use Rattle.std.specs.Prelude.{◌≡◌, ℕ, zero, suc, ◌+◌, ◌-◌, ◌*◌, ◌<◌, ◌≤◌, ◌/◌, ◌%◌, ◌^◌, ◌==◌, Bool, ℤ, pos}
use Rattle.std.specs.Prelude.{List, [], length, map, slice_index, slice_index_or}
use Rattle.std.specs.Borrow.{Bor}
use Rattle.scr_diffuse.specs.Diffusion.{IsError, diffused_bit, error_above, error_left, left_of, v_below}
use Rattle.scr_diffuse.specs.Passes.{number_at}

-- the rows of a list of slices
abbrev pub rows_in : List (Bor (List ℕ)) → List (List ℕ)
rows_in rows = map (λ row. row.now) rows

-- row k of a list of slices
abbrev pub row_in : List (Bor (List ℕ)) → ℕ → List ℕ
row_in rows k = slice_index_or (rows_in rows) k []

-- bit k of a number
abbrev pub bit_of : ℕ → ℕ → Bool
bit_of n k = n / 2 ^ k % 2 == 1

-- the error to the left of column x in the row above row k of a block. `above` gives those of the row above
-- the block
unfoldable pub block_left : (ℕ → ℤ) → List (List ℕ) → ℕ → ℕ → ℤ
block_left above rows zero x = above x
block_left above rows (suc k) x =
    error_left (λ y. block_left above rows k (y + 1)) (slice_index_or rows k []) x

-- v in column x of row k of a block
abbrev pub block_v : (ℕ → ℤ) → List (List ℕ) → ℕ → ℕ → ℤ
block_v above rows k x = v_below (λ y. block_left above rows k (y + 1)) (slice_index_or rows k []) x

-- the error to the left of column x, from a list with 21 places before the margin of the row
abbrev pub left_in : List ℤ → ℕ → ℤ
left_in errors x = number_at errors (x + 21)

-- a list holds the errors of the last of these rows, that of column x at x + 22, and 0 at all other places.
-- Each is small enough for the sums made from it
pub record HoldsBelow (rows : List (List ℕ)) (width : ℕ) (errors : List ℤ) : Type 0 where
  pub room : length errors ≡ width + 44
  pub below : (x : ℕ) → number_at errors x ≡ left_of (λ y. error_above rows y (length rows)) (x - 21)
  pub small : (x : ℕ) → IsError (number_at errors x)
  pub right : (x : ℕ) → width + 21 < x → number_at errors x ≡ pos 0

-- what a `BlockDiffuser` keeps: the errors of the last row taken, and the pixels of the last eight rows,
-- those of row k in bit k, 3k columns behind
pub record HoldsBlock (rows : List (List ℕ)) (errors : List ℤ) (dots columns : List ℕ) : Type 0 where
  pub width : ℕ
  pub long : length dots ≡ width + 21
  pub room : length columns ≡ 8 * length dots
  pub errors_are : HoldsBelow rows width errors
  pub dots_are : (k x : ℕ) → k < 8 → x < width → 8 ≤ length rows
      → bit_of (slice_index dots (x + 3 * k)) k ≡ diffused_bit rows x (length rows - 8 + k)
