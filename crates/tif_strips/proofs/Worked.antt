-- The definitions evaluated on small images.
use Rattle.std.proofs.Common.{◌≡◌, ℕ, true, false, List, [], ◌∷◌, ◌++◌, Some, None, refl}
use Rattle.pr_base.specs.declared.fault.FaultKind.TheVariants.{Short, StripPlace}
use Rattle.tif_dir.specs.Directory.{directory_of, fault_at, field_of, number_at}
use Rattle.tif_dir.specs.Names.{strip_offsets}
use Rattle.tif_packbits.specs.Packbits.{expansion}
use Rattle.tif_strips.specs.declared.shape.Shape.{Shape}
use Rattle.tif_strips.specs.Strips.{fault_of_strip, image_part, image_row, needed_length, plane_data, plane_row, plane_row_length, planar_pixel, planes, stored_bytes, strip_count, strip_data, strip_fault, strip_offset, strip_rows, strip_size, strips_per_plane}

-- a file whose directory has StripOffsets and StripByteCounts, each with strips BYTE values: up to four are
-- in the entry itself, more are at the given offset
abbrev file : ℕ → List ℕ → List ℕ → List ℕ
file strips offsets sizes =
    73 ∷ 73 ∷ 42 ∷ 0 ∷ 8 ∷ 0 ∷ 0 ∷ 0 ∷ 2 ∷ 0 ∷ 17 ∷ 1 ∷ 1 ∷ 0 ∷ strips ∷ 0 ∷ 0 ∷ 0 ∷ (offsets ++ (23 ∷ 1 ∷ 1 ∷ 0 ∷ strips ∷ 0 ∷ 0 ∷ 0 ∷ sizes))

-- eight one-bit pixels per row, two rows, packed
abbrev bits : Shape
bits = record { width = 8; length = 2; samples = 1; bits = 1; planar = 1; packed = true; rows_per_strip = 2 }

-- a strip of this packet, at offset 34
abbrev packet : ℕ → ℕ → List ℕ
packet header byte = file 1 (34 ∷ 0 ∷ 0 ∷ 0 ∷ []) (2 ∷ 0 ∷ 0 ∷ 0 ∷ header ∷ byte ∷ [])

-- a packet of two bytes covers two rows of one byte each
pub packet_over_rows : strip_fault bits (packet 255 170) ≡ None
unfolding strip_fault fault_of_strip stored_bytes strip_offset strip_size needed_length strip_rows strip_count strips_per_plane planes plane_row_length number_at field_of directory_of expansion
packet_over_rows = refl

pub second_row : image_row bits (packet 255 170) 1 ≡ 170 ∷ []
unfolding image_row plane_row plane_data strip_data stored_bytes strip_offset strip_size needed_length strip_rows strip_count strips_per_plane planes plane_row_length number_at field_of directory_of expansion
second_row = refl

-- two columns of row 1, which are in that byte
pub columns_of_row : image_part bits (packet 255 170) 1 3 2 ≡ 170 ∷ []
unfolding image_row plane_row plane_data strip_data stored_bytes strip_offset strip_size needed_length strip_rows strip_count strips_per_plane planes plane_row_length number_at field_of directory_of expansion
columns_of_row = refl

-- uncompressed rows of two bytes: two columns that span both bytes, and four columns of the second
abbrev two : Shape
two = record { width = 16; length = 1; samples = 1; bits = 1; planar = 1; packed = false; rows_per_strip = 1 }

pub columns_of_both : image_part two (packet 170 85) 0 7 2 ≡ 170 ∷ 85 ∷ []
unfolding image_row plane_row plane_data strip_data stored_bytes strip_offset strip_size needed_length strip_rows strip_count strips_per_plane planes plane_row_length number_at field_of directory_of
columns_of_both = refl

pub columns_of_second : image_part two (packet 170 85) 0 9 4 ≡ 85 ∷ []
unfolding image_row plane_row plane_data strip_data stored_bytes strip_offset strip_size needed_length strip_rows strip_count strips_per_plane planes plane_row_length number_at field_of directory_of
columns_of_second = refl

-- one byte is too short
pub one_byte_short : strip_fault bits (packet 0 170) ≡ Some (fault_at strip_offsets Short)
unfolding strip_fault fault_of_strip stored_bytes strip_offset strip_size needed_length strip_rows strip_count strips_per_plane planes plane_row_length number_at field_of directory_of expansion
one_byte_short = refl

-- a strip that ends past the end of the file
pub outside : strip_fault bits (file 1 (35 ∷ 0 ∷ 0 ∷ 0 ∷ []) (2 ∷ 0 ∷ 0 ∷ 0 ∷ 255 ∷ 170 ∷ [])) ≡ Some
    (fault_at strip_offsets StripPlace)
unfolding strip_fault fault_of_strip stored_bytes strip_offset strip_size needed_length strip_rows strip_count strips_per_plane planes plane_row_length number_at field_of directory_of expansion
outside = refl

-- two pixels of four inks per row, three rows, one plane per ink, two rows per strip: eight strips
abbrev inks : Shape
inks = record { width = 2; length = 3; samples = 4; bits = 8; planar = 2; packed = false; rows_per_strip = 2 }

-- the strips of cyan, magenta, yellow and black, two rows and then one, after the offsets and the counts
abbrev planes_file : List ℕ
planes_file =
    file 8 (34 ∷ 0 ∷ 0 ∷ 0 ∷ []) (42 ∷ 0 ∷ 0 ∷ 0 ∷ [])
    ++ (50 ∷ 54 ∷ 56 ∷ 60 ∷ 62 ∷ 66 ∷ 68 ∷ 72 ∷ 4 ∷ 2 ∷ 4 ∷ 2 ∷ 4 ∷ 2 ∷ 4 ∷ 2 ∷ [])
    ++ (1 ∷ 2 ∷ 3 ∷ 4 ∷ 5 ∷ 6 ∷ 11 ∷ 12 ∷ 13 ∷ 14 ∷ 15 ∷ 16 ∷ 21 ∷ 22 ∷ 23 ∷ 24 ∷ 25 ∷ 26 ∷ 31 ∷ 32 ∷ 33 ∷ 34 ∷ 35 ∷ 36 ∷ [])

pub eight_strips : strip_count inks ≡ 8
unfolding strip_count strips_per_plane planes
eight_strips = refl

pub whole : strip_fault inks planes_file ≡ None
unfolding strip_fault fault_of_strip stored_bytes strip_offset strip_size needed_length strip_rows strip_count strips_per_plane planes plane_row_length number_at field_of directory_of expansion
whole = refl

pub last_row : image_row inks planes_file 2 ≡ 5 ∷ 15 ∷ 25 ∷ 35 ∷ 6 ∷ 16 ∷ 26 ∷ 36 ∷ []
unfolding image_row planar_pixel plane_data strip_data stored_bytes strip_offset strip_size needed_length strip_rows strip_count strips_per_plane planes plane_row_length number_at field_of directory_of expansion
last_row = refl

pub last_pixel : image_part inks planes_file 2 1 1 ≡ 6 ∷ 16 ∷ 26 ∷ 36 ∷ []
unfolding image_row planar_pixel plane_data strip_data stored_bytes strip_offset strip_size needed_length strip_rows strip_count strips_per_plane planes plane_row_length number_at field_of directory_of expansion
last_pixel = refl
