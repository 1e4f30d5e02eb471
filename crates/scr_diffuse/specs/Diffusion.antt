-- Error diffusion (Floyd and Steinberg 1976) over a page, a list of rows of values from 0, no ink, to 255.
use Rattle.std.specs.Prelude.{ℕ, zero, suc, ◌+◌, ◌*◌, ◌≤◌, ℤ, pos, ◌+ℤ◌, ◌-ℤ◌, ◌*ℤ◌, ◌≤ℤ◌, neg_ℤ, Bool}
use Rattle.std.specs.Prelude.{if◌then◌else◌, nat_lt, List, [], length, slice_index, slice_index_or}
use Rattle.std.specs.Int.{int_div_euclid}
use Rattle.std.specs.Int.Signed.{le_z}

-- the values of a page are bytes
abbrev pub ArePixels : List (List ℕ) → Type 0
ArePixels rows = (x y : ℕ) → slice_index (slice_index_or rows y []) x ≤ 255

-- v of a pixel, from its value and the errors of four neighbours: a sixteenth of a weighted sum, rounded down
-- (Floyd and Steinberg 1976)
abbrev pub corrected : ℕ → ℤ → ℤ → ℤ → ℤ → ℤ
corrected value left above_right above above_left =
    int_div_euclid
    ((pos (16 * value)) +ℤ (pos 7 *ℤ left) +ℤ (pos 3 *ℤ above_right) +ℤ (pos 5 *ℤ above) +ℤ above_left)
    (pos 16)

-- a pixel prints where v is 128, the middle of the scale, or more
abbrev pub prints : ℤ → Bool
prints v = le_z (pos 128) v

-- the error of a pixel: v, less 255 where it prints
abbrev pub error_of : ℤ → ℤ
error_of v = (if prints v then (v -ℤ pos 255) else v)

-- the bounds of an error
pub record IsError (e : ℤ) : Type 0 where
  pub low : (neg_ℤ (pos 127)) ≤ℤ e
  pub high : e ≤ℤ pos 127

-- the error one column to the left; 0 left of the page
abbrev pub left_of : (ℕ → ℤ) → ℕ → ℤ
left_of errors zero = pos 0
left_of errors (suc x) = errors x

-- v in column x of a row of values, from the errors of the row above and the error to the left
abbrev pub v_in : (ℕ → ℤ) → List ℕ → ℤ → ℕ → ℤ
v_in above row left x = corrected (slice_index row x) left (above (x + 1)) (above x) (left_of above x)

-- the error to the left of column x in a row of values, from the errors of the row above; 0 outside the page
unfoldable pub error_left : (ℕ → ℤ) → List ℕ → ℕ → ℤ
error_left above row zero = pos 0
error_left above row (suc x) =
    (if nat_lt x (length row) then error_of (v_in above row (error_left above row x) x) else pos 0)

-- v in column x of a row of values, from the errors of the row above
abbrev pub v_below : (ℕ → ℤ) → List ℕ → ℕ → ℤ
v_below above row x = v_in above row (error_left above row x) x

-- the error in column x of the row above row y; 0 outside the page
unfoldable pub error_above : List (List ℕ) → ℕ → ℕ → ℤ
error_above rows x zero = pos 0
error_above rows x (suc y) = error_left (λ k. error_above rows k y) (slice_index_or rows y []) (x + 1)

-- e(x, y): the error in column x of row y; 0 outside the page
abbrev pub error_at : List (List ℕ) → ℕ → ℕ → ℤ
error_at rows x y = error_above rows x (suc y)

-- v of the pixel in column x of row y
unfoldable pub v_at : List (List ℕ) → ℕ → ℕ → ℤ
v_at rows x y =
    corrected (slice_index (slice_index_or rows y []) x) (left_of (λ k. error_at rows k y) x)
    (error_above rows (x + 1) y) (error_above rows x y) (left_of (λ k. error_above rows k y) x)

-- whether the pixel in column x of row y is printed
abbrev pub diffused_bit : List (List ℕ) → ℕ → ℕ → Bool
diffused_bit rows x y = prints (v_at rows x y)
