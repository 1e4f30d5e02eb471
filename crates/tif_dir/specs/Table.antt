-- The table of the fields that plateroom reads, with their defaults and minimum counts. Names and most
-- defaults are those of TIFF 6.0, Section 8; the minimum counts are plateroom's own.
use Rattle.std.specs.Prelude.{ℕ, Bool, Option, Some, None, ◌==◌, ◌%◌, ◌||◌, if◌then◌else◌}
use Rattle.tif_dir.specs.Names.{image_width, image_length, bits_per_sample, compression}
use Rattle.tif_dir.specs.Names.{photometric_interpretation, fill_order, strip_offsets, orientation}
use Rattle.tif_dir.specs.Names.{samples_per_pixel, rows_per_strip, strip_byte_counts, planar_configuration}
use Rattle.tif_dir.specs.Names.{ink_set, dot_range}

-- whether the tag is in the table
abbrev pub is_listed : ℕ → Bool
is_listed tag =
    tag == image_width || tag == image_length || tag == bits_per_sample || tag == compression
    || tag == photometric_interpretation || tag == fill_order || tag == strip_offsets || tag == orientation
    || tag == samples_per_pixel || tag == rows_per_strip || tag == strip_byte_counts
    || tag == planar_configuration || tag == ink_set || tag == dot_range

-- the default for value i of an absent field; none if the field is required
abbrev pub default_of : ℕ → ℕ → Option ℕ
default_of tag i =
    if tag == bits_per_sample then Some 1
    else if tag == compression then Some 1
    else if tag == fill_order then Some 1
    else if tag == orientation then Some 1
    else if tag == samples_per_pixel then Some 1
    else if tag == rows_per_strip then Some 4294967295
    else if tag == planar_configuration then Some 1
    else if tag == ink_set then Some 1
    else if tag == dot_range then Some (if i % 2 == 0 then 0 else 255)
    else None

-- the minimum number of values of a field, given the numbers of samples per pixel and of strips
abbrev pub least_of : ℕ → ℕ → ℕ → ℕ
least_of tag samples strips =
    if tag == bits_per_sample then samples
    else if tag == strip_offsets then strips
    else if tag == strip_byte_counts then strips
    else if tag == dot_range then 2
    else 1
