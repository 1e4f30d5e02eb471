-- The numbers that the passes over a row compute.
use Rattle.std.specs.Prelude.{ℕ, ◌*◌, ◌+◌, ◌<◌, ℤ, pos, ◌+ℤ◌, ◌*ℤ◌, ◌≤ℤ◌, neg_ℤ, FitsSigned, List, length}
use Rattle.std.specs.Prelude.{slice_index, slice_index_or}
use Rattle.std.specs.Int.{int_div_euclid, w16}
use Rattle.scr_diffuse.specs.Diffusion.{left_of, error_of}

-- the number at a place; 0 past the end
abbrev pub number_at : List ℤ → ℕ → ℤ
number_at numbers x = slice_index_or numbers x (pos 0)

-- the numbers of a list fit into sixteen bits
abbrev pub AreWords : List ℤ → Type 0
AreWords numbers = (x : ℕ) → x < length numbers → FitsSigned w16 (number_at numbers x)

-- the bounds of a whole sum
pub record IsSum (z : ℤ) : Type 0 where
  pub low : (neg_ℤ (pos 61440)) ≤ℤ z
  pub high : z ≤ℤ pos 61440

-- the bounds of a number v, a sixteenth of a whole sum
pub record IsNumber (v : ℤ) : Type 0 where
  pub low : (neg_ℤ (pos 3840)) ≤ℤ v
  pub high : v ≤ℤ pos 3840

-- a sixteenth, rounded down
abbrev pub floor_16 : ℤ → ℤ
floor_16 z = int_div_euclid z (pos 16)

-- the errors of a row, from a list with a margin of one place
abbrev pub errors_in : List ℤ → ℕ → ℤ
errors_in errors x = number_at errors (x + 1)

-- sixteen times a value, plus the weighted errors above it
abbrev pub weighted : ℕ → ℤ → ℤ → ℤ → ℤ
weighted value above_right above above_left =
    (pos (16 * value)) +ℤ (pos 3 *ℤ above_right) +ℤ (pos 5 *ℤ above) +ℤ above_left

-- the partial sum of pixel x; the list of errors has a margin of one place
abbrev pub sum_above : List ℕ → List ℤ → ℕ → ℤ
sum_above values errors x =
    weighted (slice_index values x) (number_at errors (x + 2)) (number_at errors (x + 1)) (number_at errors x)

-- v of a pixel, from its partial sum and the error to its left
abbrev pub v_of : ℤ → ℤ → ℤ
v_of sum left = floor_16 (sum +ℤ (pos 7 *ℤ left))

-- v of pixel x, from the partial sums and from the numbers v of the pixels before it
abbrev pub v_from : List ℤ → List ℤ → ℕ → ℤ
v_from sums vs x = v_of (number_at sums x) (left_of (λ k. error_of (number_at vs k)) x)
