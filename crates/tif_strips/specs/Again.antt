-- Rows that equal the row above them.
use Rattle.std.specs.Prelude.{◌≡◌, ℕ, ◌+◌, ◌-◌, ◌*◌, ◌<◌, IfSome, IsSome, IsTrue, Bool, List, [], None, length, take, slice_index}
use Rattle.std.specs.Prelude.{slice_index_or}
use Rattle.tif_strips.specs.declared.last_row.LastRow.{LastRow}
use Rattle.tif_strips.specs.declared.shape.Shape.{Shape}
use Rattle.tif_strips.specs.Strips.{Image, image_row, plane_row, plane_row_length}

-- an ink has the same samples in row y as in the row above it
abbrev pub Repeats : Shape → List ℕ → ℕ → ℕ → Type 0
Repeats shape bytes ink y = (x : ℕ) → x < shape.width
    → slice_index (image_row shape bytes y) (4 * x + ink) ≡ slice_index (image_row shape bytes (y - 1)) (4 * x + ink)

-- row y has the same black as the row above it, and, if `colour`, the same colours
pub record ComesAgain (shape : Shape) (bytes : List ℕ) (colour : Bool) (y : ℕ) : Type 0 where
  pub below : 0 < y
  pub cyan : IsTrue colour → Repeats shape bytes 0 y
  pub magenta : IsTrue colour → Repeats shape bytes 1 y
  pub yellow : IsTrue colour → Repeats shape bytes 2 y
  pub black : Repeats shape bytes 3 y

-- ---- what the code keeps of the row above

-- no ink's row is known
abbrev pub none_known : LastRow
none_known = record { cyan = None; magenta = None; yellow = None; black = None }

-- these samples are the row of a plane above row y
pub record IsAbove (image : Image) (plane y : ℕ) (row : List ℕ) : Type 0 where
  pub below : 0 < y
  pub long : length row ≡ plane_row_length image.shape
  pub is : row ≡ plane_row image.shape image.bytes plane (y - 1)

-- the known rows are those above row y
pub record AreAbove (image : Image) (y : ℕ) (last : LastRow) : Type 0 where
  pub cyan_is : IfSome last.cyan (IsAbove image 0 y)
  pub magenta_is : IfSome last.magenta (IsAbove image 1 y)
  pub yellow_is : IfSome last.yellow (IsAbove image 2 y)
  pub black_is : IfSome last.black (IsAbove image 3 y)

-- the known rows are the first row of the samples ahead
pub record AreFirst (row : ℕ) (aheads : List (List ℕ)) (last : LastRow) : Type 0 where
  pub cyan_is : IfSome last.cyan (λ known. known ≡ take row (slice_index_or aheads 0 []))
  pub magenta_is : IfSome last.magenta (λ known. known ≡ take row (slice_index_or aheads 1 []))
  pub yellow_is : IfSome last.yellow (λ known. known ≡ take row (slice_index_or aheads 2 []))
  pub black_is : IfSome last.black (λ known. known ≡ take row (slice_index_or aheads 3 []))

-- the known rows have this many bytes
pub record AreLong (row : ℕ) (last : LastRow) : Type 0 where
  pub cyan_is : IfSome last.cyan (λ known. length known ≡ row)
  pub magenta_is : IfSome last.magenta (λ known. length known ≡ row)
  pub yellow_is : IfSome last.yellow (λ known. length known ≡ row)
  pub black_is : IfSome last.black (λ known. length known ≡ row)

-- the samples ahead begin with the known rows, of which that of black is known, and, if `colour`, those of the
-- colours
pub record AreNext (colour : Bool) (aheads : List (List ℕ)) (last : LastRow) : Type 0 where
  pub cyan_is : IfSome last.cyan (λ known. take (length known) (slice_index_or aheads 0 []) ≡ known)
  pub magenta_is : IfSome last.magenta (λ known. take (length known) (slice_index_or aheads 1 []) ≡ known)
  pub yellow_is : IfSome last.yellow (λ known. take (length known) (slice_index_or aheads 2 []) ≡ known)
  pub black_is : IfSome last.black (λ known. take (length known) (slice_index_or aheads 3 []) ≡ known)
  pub cyan_known : IsTrue colour → IsSome last.cyan
  pub magenta_known : IsTrue colour → IsSome last.magenta
  pub yellow_known : IsTrue colour → IsSome last.yellow
  pub black_known : IsSome last.black
