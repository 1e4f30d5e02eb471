-- The plate file: a TIFF 6.0 file with one bit per pixel, least significant byte first. Each row is packed
-- by itself with PackBits (Section 9). The directory follows the rows. The order of the parts, the entries
-- and the rows per strip are plateroom's choice among those that TIFF allows.
use Rattle.std.specs.Prelude.{ℕ, ◌+◌, ◌-◌, ◌*◌, ◌/◌, ◌%◌, ◌≤◌, List, [], ◌∷◌, ◌++◌, length, map, max, take}
use Rattle.std.specs.Prelude.{drop, replicate, codes, nat_lt, if◌then◌else◌}
use Rattle.std.specs.List.{flat_map, range_with_len}
use Rattle.byteorder.specs.Endian.{little_bytes}
use Rattle.pr_base.specs.Row.{row_size}
use Rattle.tif_dir.specs.Names.{image_width, image_length, bits_per_sample, compression}
use Rattle.tif_dir.specs.Names.{photometric_interpretation, strip_offsets, samples_per_pixel, rows_per_strip}
use Rattle.tif_dir.specs.Names.{strip_byte_counts, x_resolution, y_resolution, resolution_unit}
use Rattle.tif_packbits.specs.Packbits.{packing}
use Rattle.tif_plate.specs.declared.entry.Entry.{Entry}

-- a width or a height of an image or a plate, in pixels
abbrev pub IsSide : ℕ → Type 0
IsSide side = (1 ≤ side) × (side ≤ 65535)

-- a resolution in pixels per inch
abbrev pub IsDpi : ℕ → Type 0
IsDpi dpi = (1 ≤ dpi) × (dpi ≤ 10000)

-- RowsPerStrip (Section 3): as many unpacked rows as fit in 8,192 bytes, at least one
abbrev pub rows_each : ℕ → ℕ
rows_each width = max 1 (8192 / row_size width)

-- the number of strips (Section 3, StripsPerImage)
abbrev pub strip_count : ℕ → ℕ → ℕ
strip_count width height = (height + (rows_each width - 1)) / rows_each width

-- the rows before strip i, then the rows of strip i
abbrev pub rows_before : ℕ → List (List ℕ) → ℕ → List (List ℕ)
rows_before width rows i = take (i * rows_each width) rows

abbrev pub rows_in : ℕ → List (List ℕ) → ℕ → List (List ℕ)
rows_in width rows i = take (rows_each width) (drop (i * rows_each width) rows)

-- the offset of strip i: the packed rows before it follow the first eight bytes
abbrev pub start_of : ℕ → List (List ℕ) → ℕ → ℕ
start_of width rows i = 8 + length (flat_map packing (rows_before width rows i))

-- the byte count of strip i: the total length of its packed rows
abbrev pub size_of : ℕ → List (List ℕ) → ℕ → ℕ
size_of width rows i = length (flat_map packing (rows_in width rows i))

-- StripOffsets and StripByteCounts (Section 3) of a plate with these rows
unfoldable pub strip_starts : ℕ → List (List ℕ) → List ℕ
strip_starts width rows = map (start_of width rows) (range_with_len 0 (strip_count width (length rows)))

unfoldable pub strip_counts : ℕ → List (List ℕ) → List ℕ
strip_counts width rows = map (size_of width rows) (range_with_len 0 (strip_count width (length rows)))

-- the offset of the directory after rows that end at offset end: the first even one (Section 2)
abbrev pub directory_offset : ℕ → ℕ
directory_offset end = end + end % 2

-- an entry of a directory (Section 2): tag, type, count, and value or offset
abbrev pub entry_bytes : Entry → List ℕ
entry_bytes entry =
    ((little_bytes 2 entry.tag ++ little_bytes 2 entry.kind) ++ little_bytes 4 entry.count)
    ++ little_bytes 4 entry.value

-- the field types (Section 2)
abbrev pub short : ℕ
short = 3

abbrev pub long : ℕ
long = 4

abbrev pub rational : ℕ
rational = 5

-- the value of StripOffsets: the offset of the only strip, or of the table of offsets after the resolutions
abbrev pub offsets_value : ℕ → ℕ → ℕ
offsets_value strips end = if nat_lt strips 2 then 8 else directory_offset end + 166

-- the value of StripByteCounts: the byte count of the only strip, or the offset of the table of counts
abbrev pub counts_value : ℕ → ℕ → ℕ
counts_value strips end = if nat_lt strips 2 then end - 8 else directory_offset end + 166 + 4 * strips

-- the twelve entries of a plate whose rows end at offset `end`: bilevel, PackBits, WhiteIsZero, inches
unfoldable pub plate_entries : ℕ → ℕ → ℕ → List Entry
plate_entries width height end =
    record { tag = image_width; kind = long; count = 1; value = width }
    ∷ record { tag = image_length; kind = long; count = 1; value = height }
    ∷ record { tag = bits_per_sample; kind = short; count = 1; value = 1 }
    ∷ record { tag = compression; kind = short; count = 1; value = 32773 }
    ∷ record { tag = photometric_interpretation; kind = short; count = 1; value = 0 }
    ∷ record {
      tag = strip_offsets;
      kind = long;
      count = strip_count width height;
      value = offsets_value (strip_count width height) end;
    }
    ∷ record { tag = samples_per_pixel; kind = short; count = 1; value = 1 }
    ∷ record { tag = rows_per_strip; kind = long; count = 1; value = rows_each width }
    ∷ record {
      tag = strip_byte_counts;
      kind = long;
      count = strip_count width height;
      value = counts_value (strip_count width height) end;
    }
    ∷ record { tag = x_resolution; kind = rational; count = 1; value = directory_offset end + 150 }
    ∷ record { tag = y_resolution; kind = rational; count = 1; value = directory_offset end + 158 }
    ∷ record { tag = resolution_unit; kind = short; count = 1; value = 2 }
    ∷ []

-- the directory (Section 2): the number of entries, the entries, and 0 as the offset of the next directory
unfoldable pub plate_directory : ℕ → ℕ → ℕ → List ℕ
plate_directory width height end =
    (little_bytes 2 12 ++ flat_map entry_bytes (plate_entries width height end)) ++ little_bytes 4 0

-- a whole number as a RATIONAL
abbrev pub whole : ℕ → List ℕ
whole n = little_bytes 4 n ++ little_bytes 4 1

-- the offsets and the byte counts of the strips, if there are two or more
unfoldable pub strip_table : List ℕ → List ℕ → List ℕ
strip_table places counts =
    if nat_lt (length counts) 2 then []
    else flat_map (little_bytes 4) places ++ flat_map (little_bytes 4) counts

-- all bytes after rows that end at offset end: a zero byte if end is odd, the directory, XResolution,
-- YResolution, and the table of strips
unfoldable pub bytes_behind : ℕ → ℕ → ℕ → ℕ → List ℕ → List ℕ → List ℕ
bytes_behind width height dpi end places counts =
    ((replicate (end % 2) 0 ++ plate_directory width height end) ++ (whole dpi ++ whole dpi))
    ++ strip_table places counts

-- the first eight bytes (Section 2): byte order, 42, and the offset of the directory
abbrev pub header_bytes : ℕ → List ℕ
header_bytes place = (codes "II" ++ little_bytes 2 42) ++ little_bytes 4 place

-- the offset of the end of the packed rows
abbrev pub rows_end : List (List ℕ) → ℕ
rows_end rows = 8 + length (flat_map packing rows)

-- a plate of this width and resolution with these rows from top to bottom, each of row_size width bytes
-- before it is packed
unfoldable pub plate_file : ℕ → ℕ → List (List ℕ) → List ℕ
plate_file width dpi rows =
    (header_bytes (directory_offset (rows_end rows)) ++ flat_map packing rows)
    ++ bytes_behind width (length rows) dpi (rows_end rows)
    (strip_starts width rows) (strip_counts width rows)
