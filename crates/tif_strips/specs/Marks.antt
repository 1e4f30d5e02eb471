-- Marks in long packed strips: the offsets, in the bytes of a strip, at which every 64th of its rows begins.
use Rattle.std.specs.Prelude.{◌≡◌, ◌≢◌, ℕ, ◌+◌, ◌-◌, ◌*◌, ◌/◌, ◌<◌, ◌≤◌, min, if◌then◌else◌, List}
use Rattle.std.specs.Prelude.{length, drop, slice_index}
use Rattle.tif_packbits.specs.Packbits.{expansion}
use Rattle.tif_strips.specs.declared.shape.Shape.{Shape}
use Rattle.tif_strips.specs.Strips.{Image, plane_row_length, stored_bytes, strip_count}

-- the number of marks of a strip: of its rows 64, 128 and so on, as far as the longest strip has such rows
unfoldable pub marks_per_strip : Shape → ℕ
marks_per_strip shape = if shape.packed then (min shape.rows_per_strip shape.length - 1) / 64 else 0

-- A mark of these stored bytes: what begins at this offset expands to the samples from byte `from` on. 0 says
-- nothing.
pub record IsMark (stored : List ℕ) (from mark : ℕ) : Type 0 where
  pub within : mark ≤ length stored
  pub begins : mark ≢ 0 → expansion (drop mark stored) ≡ drop from (expansion stored)

-- the marks of one strip: one each `step` bytes of samples
pub record HasMarks (stored : List ℕ) (step : ℕ) (marks : List ℕ) : Type 0 where
  pub each : (k : ℕ) → k < length marks → IsMark stored ((k + 1) * step) (slice_index marks k)

-- the marks of so many strips of an image, from strip first on: so many per strip, each strip's in its turn
pub record AreMarks (image : Image) (first count per : ℕ) (marks : List ℕ) : Type 0 where
  pub each : (i k : ℕ) → i < count → k < per
      → IsMark (stored_bytes image.shape image.bytes (first + i))
      ((k + 1) * (64 * plane_row_length image.shape)) (slice_index marks (i * per + k))

-- the marks of an image
abbrev pub MarksOf : Image → List ℕ → Type 0
MarksOf image marks = AreMarks image 0 (strip_count image.shape) (marks_per_strip image.shape) marks
