-- Whole plates, byte for byte.
use Rattle.std.proofs.Common.{◌≡◌, [], ◌∷◌, refl}
use Rattle.tif_packbits.specs.Packbits.{packing}
use Rattle.tif_plate.specs.Plate.{strip_starts, strip_counts, plate_entries, plate_directory, strip_table, bytes_behind, plate_file}

-- four pixels, of which the first and the fourth are printed
four-by-one : plate_file 4 1200 ((144 ∷ []) ∷ []) ≡
    73 ∷ 73 ∷ 42 ∷ 0 ∷ 10 ∷ 0 ∷ 0 ∷ 0
    ∷ 0 ∷ 144
    ∷ 12 ∷ 0
    ∷ 0 ∷ 1 ∷ 4 ∷ 0 ∷ 1 ∷ 0 ∷ 0 ∷ 0 ∷ 4 ∷ 0 ∷ 0 ∷ 0
    ∷ 1 ∷ 1 ∷ 4 ∷ 0 ∷ 1 ∷ 0 ∷ 0 ∷ 0 ∷ 1 ∷ 0 ∷ 0 ∷ 0
    ∷ 2 ∷ 1 ∷ 3 ∷ 0 ∷ 1 ∷ 0 ∷ 0 ∷ 0 ∷ 1 ∷ 0 ∷ 0 ∷ 0
    ∷ 3 ∷ 1 ∷ 3 ∷ 0 ∷ 1 ∷ 0 ∷ 0 ∷ 0 ∷ 5 ∷ 128 ∷ 0 ∷ 0
    ∷ 6 ∷ 1 ∷ 3 ∷ 0 ∷ 1 ∷ 0 ∷ 0 ∷ 0 ∷ 0 ∷ 0 ∷ 0 ∷ 0
    ∷ 17 ∷ 1 ∷ 4 ∷ 0 ∷ 1 ∷ 0 ∷ 0 ∷ 0 ∷ 8 ∷ 0 ∷ 0 ∷ 0
    ∷ 21 ∷ 1 ∷ 3 ∷ 0 ∷ 1 ∷ 0 ∷ 0 ∷ 0 ∷ 1 ∷ 0 ∷ 0 ∷ 0
    ∷ 22 ∷ 1 ∷ 4 ∷ 0 ∷ 1 ∷ 0 ∷ 0 ∷ 0 ∷ 0 ∷ 32 ∷ 0 ∷ 0
    ∷ 23 ∷ 1 ∷ 4 ∷ 0 ∷ 1 ∷ 0 ∷ 0 ∷ 0 ∷ 2 ∷ 0 ∷ 0 ∷ 0
    ∷ 26 ∷ 1 ∷ 5 ∷ 0 ∷ 1 ∷ 0 ∷ 0 ∷ 0 ∷ 160 ∷ 0 ∷ 0 ∷ 0
    ∷ 27 ∷ 1 ∷ 5 ∷ 0 ∷ 1 ∷ 0 ∷ 0 ∷ 0 ∷ 168 ∷ 0 ∷ 0 ∷ 0
    ∷ 40 ∷ 1 ∷ 3 ∷ 0 ∷ 1 ∷ 0 ∷ 0 ∷ 0 ∷ 2 ∷ 0 ∷ 0 ∷ 0
    ∷ 0 ∷ 0 ∷ 0 ∷ 0
    ∷ 176 ∷ 4 ∷ 0 ∷ 0 ∷ 1 ∷ 0 ∷ 0 ∷ 0
    ∷ 176 ∷ 4 ∷ 0 ∷ 0 ∷ 1 ∷ 0 ∷ 0 ∷ 0 ∷ []
unfolding packing strip_starts strip_counts plate_entries plate_directory strip_table bytes_behind plate_file
four-by-one = refl

-- rows of 65,528 pixels, 8,191 bytes each: one row per strip
two-strips : strip_starts 65528 ((1 ∷ 1 ∷ 1 ∷ []) ∷ (2 ∷ []) ∷ []) ≡ 8 ∷ 10 ∷ []
unfolding packing strip_starts
two-strips = refl

two-counts : strip_counts 65528 ((1 ∷ 1 ∷ 1 ∷ []) ∷ (2 ∷ []) ∷ []) ≡ 2 ∷ 2 ∷ []
unfolding packing strip_counts
two-counts = refl
