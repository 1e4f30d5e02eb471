-- Curves through points: a point is a pair of an input ink value and the value that it becomes.
use Rattle.std.specs.Prelude.{◌≡◌, ℕ, ◌+◌, ◌-◌, ◌*◌, ◌/◌, ◌<◌, ◌≤◌, ◌&&◌, if◌then◌else◌, nat_le, List, []}
use Rattle.std.specs.Prelude.{◌∷◌, length, slice_index_or}

-- the input value of point k
abbrev pub place : List (ℕ × ℕ) → ℕ → ℕ
place points k = (slice_index_or points k (0, 0)).0

-- 2 to 32 points, whose input values strictly rise from 0 to 255
pub record AreValid (points : List (ℕ × ℕ)) : Type 0 where
  pub least : 2 ≤ length points
  pub most : length points ≤ 32
  pub first : place points 0 ≡ 0
  pub last : place points (length points - 1) ≡ 255
  pub rises : (k : ℕ) → k + 1 < length points → place points k < place points (k + 1)

-- the value at v on the line between two points, rounded down
abbrev pub line_value : ℕ × ℕ → ℕ × ℕ → ℕ → ℕ
line_value left right v = (left.1 * (right.0 - v) + right.1 * (v - left.0)) / (right.0 - left.0)

-- the value at v: on the line between the first two neighbours that have v between them
abbrev pub curve_value : List (ℕ × ℕ) → ℕ → ℕ
curve_value [] v = 0
curve_value (left ∷ []) v = 0
curve_value (left ∷ right ∷ points) v =
    if nat_le left.0 v && nat_le v right.0 then line_value left right v else curve_value (right ∷ points) v
