-- A cursor over an image, and the part of a row that it read last.
use Rattle.std.specs.Prelude.{◌≡◌, ℕ, ◌+◌, ◌-◌, ◌≤◌, List, length, take}
use Rattle.tif_strips.specs.Strips.{Cursor, image_part, part_length}
use Rattle.tif_image.specs.Image.{BilevelImage}
use Rattle.page_layers.specs.declared.layer.Art.{Art}
use Rattle.page_layers.specs.declared.layer.Crop.{Crop}
use Rattle.page_layers.specs.Layer.{bytes_of, shape_of}

-- the number of bytes that hold a crop's columns
abbrev pub crop_length : Cursor → Crop → ℕ
crop_length rows crop = part_length rows.shape crop.x crop.width

-- the bytes of a crop's columns in the row before the cursor's next
abbrev pub crop_part : Cursor → Crop → List ℕ
crop_part rows crop = image_part rows.shape rows.bytes (rows.next - 1) crop.x crop.width

-- a buffer starts with the bytes of a crop's columns
pub record Holds (rows : Cursor) (crop : Crop) (room : List ℕ) : Type 0 where
  pub columns : crop.x + crop.width ≤ rows.shape.width
  pub long : crop_length rows crop ≤ length room
  pub part_is : take (crop_length rows crop) room ≡ crop_part rows crop

-- the cursor, before another row
abbrev pub at_row : ℕ → Cursor → Cursor
at_row next cursor = record cursor { next = next }

-- a cursor over a mask
abbrev pub mask_cursor : ℕ → BilevelImage → Cursor
mask_cursor next mask = record { shape = mask.shape; bytes = mask.bytes; next = next }

-- a cursor over the image of a layer
abbrev pub IsOf : Art → Cursor → Type 0
IsOf art cursor = cursor ≡ record { shape = shape_of art; bytes = bytes_of art; next = cursor.next }
