-- The position of a cursor in an image.
use Rattle.std.specs.Prelude.{◌≡◌, ℕ, ◌+◌, ◌*◌, ◌<◌, ◌≤◌, min, List, [], length, take, drop, slice_index_or}
use Rattle.std.specs.Prelude.{None}
use Rattle.tif_strips.specs.declared.place.Place.{Place}
use Rattle.tif_strips.specs.Strips.{Image, IsStriped, ink_part, plane_row, plane_row_length, planes}
use Rattle.tif_strips.specs.Strips.{strip_fault}
use Rattle.tif_strips.specs.Planes.{aheads_of}

-- the samples begin with this many rows of a plane, from row y on
pub record HoldsRows (image : Image) (plane y rows : ℕ) (samples : List ℕ) : Type 0 where
  pub enough : rows * plane_row_length image.shape ≤ length samples
  pub each : (k : ℕ) → k < rows
      → take (plane_row_length image.shape) (drop (k * plane_row_length image.shape) samples)
      ≡ plane_row image.shape image.bytes plane (y + k)

-- The image has passed its tests. The rows up to the end of the strip last started, or of the image, are
-- still to come, and in each plane they come first among the samples ahead.
pub record IsPlace (image : Image) (place : Place) : Type 0 where
  pub striped : IsStriped image.shape
  pub passed : strip_fault image.shape image.bytes ≡ None
  pub to_strip_end :
      place.next + place.rows ≡ min (place.begun * image.shape.rows_per_strip) image.shape.length
  pub all_planes : 0 < place.rows → length (aheads_of place.planes) ≡ planes image.shape
  pub each : (plane : ℕ) → plane < planes image.shape
      → HoldsRows image plane place.next place.rows (slice_index_or (aheads_of place.planes) plane [])

-- the slices, of which these are the values before and after, hold the samples of their inks in row y, from
-- column first on
pub record TakeParts (image : Image) (y first : ℕ)
    (c m y' k cyan magenta yellow black : List ℕ) : Type 0 where
  pub cyan_is : cyan ≡ ink_part image.shape image.bytes y 0 first (length c)
  pub magenta_is : magenta ≡ ink_part image.shape image.bytes y 1 first (length m)
  pub yellow_is : yellow ≡ ink_part image.shape image.bytes y 2 first (length y')
  pub black_is : black ≡ ink_part image.shape image.bytes y 3 first (length k)
