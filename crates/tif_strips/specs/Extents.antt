-- The extents of an image's strips in its file.
use Rattle.std.specs.Prelude.{ℕ, min, List, length, map, slice_index, slice_index_or}
use Rattle.std.specs.List.{range_with_len}
use Rattle.tif_strips.specs.declared.extents.Extent.{Extent}
use Rattle.tif_strips.specs.declared.extents.Extents.{Extents}
use Rattle.tif_strips.specs.declared.extents.Extents.TheVariants.{Fields, Kept}
use Rattle.tif_strips.specs.Strips.{Image, strip_count, strip_offset, strip_size}

-- how many strips have an extent
abbrev pub count_in : Extents → ℕ
count_in (Fields offsets sizes) = min (length offsets) (length sizes)
count_in (Kept extents) = length extents.now

-- the extent of strip i
abbrev pub extent_in : Extents → ℕ → Extent
extent_in (Fields offsets sizes) i =
    record { offset = slice_index offsets i; size = slice_index sizes i }
extent_in (Kept extents) i = slice_index_or extents.now i (record { offset = 0; size = 0 })

-- the extent of strip i of an image, by its fields
abbrev pub extent_of : Image → ℕ → Extent
extent_of image i =
    record {
      offset = strip_offset image.shape image.bytes i;
      size = strip_size image.shape image.bytes i;
    }

-- the extents of all strips of an image
unfoldable pub extents_of : Image → List Extent
extents_of image = map (extent_of image) (range_with_len 0 (strip_count image.shape))
