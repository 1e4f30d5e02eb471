-- Strips and rows (TIFF 6.0, Section 3 "Physical Dimensions" and "RowsPerStrip", Section 8
-- "PlanarConfiguration", Section 16 "CMYK Images").
use Rattle.std.specs.Prelude.{ℕ, ◌+◌, ◌-◌, ◌*◌, ◌/◌, ◌%◌, ◌≤◌, min, ◌==◌, ◌&&◌, ◌||◌, nat_lt, if◌then◌else◌}
use Rattle.std.specs.Prelude.{IsTrue, Bool, List, [], ◌∷◌, length, take, drop, map, slice_index, Option, Some}
use Rattle.std.specs.Prelude.{None}
use Rattle.std.specs.Result.{result_err, result_unwrap_or}
use Rattle.std.specs.List.{flat_map, range_with_len}
use Rattle.pr_base.specs.First.{first_some}
use Rattle.pr_base.specs.Row.{row_size}
use Rattle.pr_base.specs.declared.fault.TagFault.{TagFault}
use Rattle.pr_base.specs.declared.fault.FaultKind.TheVariants.{StripPlace, Short}
use Rattle.tif_dir.specs.Directory.{fault_at, number_at}
use Rattle.tif_dir.specs.Names.{strip_byte_counts, strip_offsets}
use Rattle.tif_packbits.specs.Packbits.{expansion}
use Rattle.tif_strips.specs.declared.shape.Shape.{Shape}

-- ---- the shape of an image

-- what the tests of the other fields guarantee of a shape before the strips are tested
pub record IsStriped (shape : Shape) : Type 0 where
  pub width : (1 ≤ shape.width) × (shape.width ≤ 65535)
  pub length : (1 ≤ shape.length) × (shape.length ≤ 65535)
  pub samples : IsTrue (shape.samples == 4 && shape.bits == 8 || shape.samples == 1 && shape.bits == 1)
  pub planar : IsTrue (shape.planar == 1 || shape.planar == 2)
  pub rows_per_strip : 1 ≤ shape.rows_per_strip

-- the number of planes: one per sample for four separate samples, otherwise one ("PlanarConfiguration")
unfoldable pub planes : Shape → ℕ
planes shape = if shape.samples == 4 && shape.planar == 2 then 4 else 1

-- the bytes in a row of the image: four per pixel, or one per eight pixels
abbrev pub row_length : Shape → ℕ
row_length shape = if shape.samples == 4 then 4 * shape.width else row_size shape.width

-- the bytes of a row in one plane
unfoldable pub plane_row_length : Shape → ℕ
plane_row_length shape =
    if shape.samples == 4 then if shape.planar == 2 then shape.width else 4 * shape.width
    else row_size shape.width

-- the number of strips per plane ("RowsPerStrip": StripsPerImage)
unfoldable pub strips_per_plane : Shape → ℕ
strips_per_plane shape = (shape.length + shape.rows_per_strip - 1) / shape.rows_per_strip

-- the number of strips in all planes; those of the first plane come first ("StripOffsets")
unfoldable pub strip_count : Shape → ℕ
strip_count shape = planes shape * strips_per_plane shape

-- the number of rows in strip i of a plane; the last strip may have fewer ("RowsPerStrip")
unfoldable pub strip_rows : Shape → ℕ → ℕ
strip_rows shape i = min shape.rows_per_strip (shape.length - i * shape.rows_per_strip)

-- the bytes of samples that a strip needs
unfoldable pub needed_length : Shape → ℕ → ℕ
needed_length shape strip = strip_rows shape (strip % strips_per_plane shape) * plane_row_length shape

-- ---- the data of a strip

-- the offset of a strip in the file ("StripOffsets")
unfoldable pub strip_offset : Shape → List ℕ → ℕ → ℕ
strip_offset shape bytes strip = result_unwrap_or (number_at bytes strip_offsets strip (strip_count shape)) 0

-- the byte count of a strip in the file ("StripByteCounts")
unfoldable pub strip_size : Shape → List ℕ → ℕ → ℕ
strip_size shape bytes strip =
    result_unwrap_or (number_at bytes strip_byte_counts strip (strip_count shape)) 0

-- the bytes of a strip as stored in the file
unfoldable pub stored_bytes : Shape → List ℕ → ℕ → List ℕ
stored_bytes shape bytes strip =
    take (strip_size shape bytes strip) (drop (strip_offset shape bytes strip) bytes)

-- the samples in stored bytes: if packed, their expansion (Section 9) as one stream for the whole strip
abbrev pub samples_in : Bool → List ℕ → List ℕ
samples_in packed stored = if packed then expansion stored else stored

-- the data of a strip: exactly as many samples as it needs
unfoldable pub strip_data : Shape → List ℕ → ℕ → List ℕ
strip_data shape bytes strip =
    take (needed_length shape strip) (samples_in shape.packed (stored_bytes shape bytes strip))

-- ---- the tests

-- the fault of a field with one value per strip
abbrev pub fault_of_field : Shape → List ℕ → ℕ → Option TagFault
fault_of_field shape bytes tag = result_err (number_at bytes tag 0 (strip_count shape))

-- the fault of one strip: it must be within the file and have the samples that it needs
unfoldable pub fault_of_strip : Shape → List ℕ → ℕ → Option TagFault
fault_of_strip shape bytes strip =
    if nat_lt (length bytes) (strip_offset shape bytes strip + strip_size shape bytes strip)
    then Some (fault_at strip_offsets StripPlace)
    else if nat_lt (length (samples_in shape.packed (stored_bytes shape bytes strip)))
    (needed_length shape strip)
    then Some (fault_at strip_offsets Short)
    else None

-- the first fault of a list of tests
abbrev pub first_fault : List (Option TagFault) → Option TagFault
first_fault = first_some (λ test. test)

-- the first fault of StripOffsets, StripByteCounts and the strips, in this order
unfoldable pub strip_fault : Shape → List ℕ → Option TagFault
strip_fault shape bytes =
    first_fault
    (fault_of_field shape bytes strip_offsets ∷ fault_of_field shape bytes strip_byte_counts
    ∷ map (fault_of_strip shape bytes) (range_with_len 0 (strip_count shape)))

-- ---- rows

-- the data of a plane: that of its strips, concatenated
unfoldable pub plane_data : Shape → List ℕ → ℕ → List ℕ
plane_data shape bytes plane =
    let strips = strips_per_plane shape in
    flat_map (λ i. strip_data shape bytes (plane * strips + i)) (range_with_len 0 strips)

-- row y of a plane
unfoldable pub plane_row : Shape → List ℕ → ℕ → ℕ → List ℕ
plane_row shape bytes plane y =
    take (plane_row_length shape) (drop (y * plane_row_length shape) (plane_data shape bytes plane))

-- the samples of a pixel if each ink has a plane: cyan, magenta, yellow, black (Section 16 "InkSet")
unfoldable pub planar_pixel : Shape → List ℕ → ℕ → ℕ → List ℕ
planar_pixel shape bytes y x =
    map (λ ink. slice_index (plane_data shape bytes ink) (y * shape.width + x)) (0 ∷ 1 ∷ 2 ∷ 3 ∷ [])

-- row y of the image: four samples per pixel, interleaved, or one sample, as stored
unfoldable pub image_row : Shape → List ℕ → ℕ → List ℕ
image_row shape bytes y =
    if planes shape == 4 then flat_map (planar_pixel shape bytes y) (range_with_len 0 shape.width)
    else plane_row shape bytes 0 y

-- ---- parts of rows

-- the byte of an image row that contains column x, or the first of its four bytes
abbrev pub column_place : Shape → ℕ → ℕ
column_place shape x = if shape.samples == 4 then 4 * x else x / 8

-- the number of bytes in a row that contain count columns, from column first on
abbrev pub part_length : Shape → ℕ → ℕ → ℕ
part_length shape first count = if shape.samples == 4 then 4 * count else row_size (first % 8 + count)

-- the bytes of row y of the image that contain these columns
abbrev pub image_part : Shape → List ℕ → ℕ → ℕ → ℕ → List ℕ
image_part shape bytes y first count =
    take (part_length shape first count) (drop (column_place shape first) (image_row shape bytes y))

-- the samples of one ink in row y of an image of four inks, in these columns
unfoldable pub ink_part : Shape → List ℕ → ℕ → ℕ → ℕ → ℕ → List ℕ
ink_part shape bytes y ink first count =
    map (λ x. slice_index (image_row shape bytes y) (4 * x + ink)) (range_with_len first count)

-- the corresponding numbers for a row of one plane
unfoldable pub plane_place : Shape → ℕ → ℕ
plane_place shape x =
    if shape.samples == 4 then if shape.planar == 2 then x else 4 * x
    else x / 8

unfoldable pub plane_part_length : Shape → ℕ → ℕ → ℕ
plane_part_length shape first count =
    if shape.samples == 4 then if shape.planar == 2 then count else 4 * count
    else row_size (first % 8 + count)

-- ---- models

-- an image: its shape and the bytes of its file
pub record Image : Type 0 where
  pub shape : Shape
  pub bytes : List ℕ

-- a cursor over the rows of an image: the shape, the bytes of the file, and the number of the next row
pub record Cursor : Type 0 where
  pub shape : Shape
  pub bytes : List ℕ
  pub next : ℕ
