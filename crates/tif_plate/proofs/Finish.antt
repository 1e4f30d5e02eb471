-- Front, packed rows and tail are the plate file once the offset of the directory is in bytes 4 to 7.
use Rattle.std.proofs.Common.{◌≡◌, ℕ, ◌+◌, List, ◌++◌, length, ap, ◌∙◌}
use Rattle.std.specs.List.{flat_map}
use Rattle.pr_base.specs.Offset.{with_offset}
use Rattle.tif_packbits.specs.Packbits.{packing}
use Rattle.tif_plate.specs.Plate.{directory_offset, bytes_behind, rows_end, strip_counts, plate_file}
use Rattle.tif_plate.specs.Tail.{front_bytes, begins, tail_offset, tail_bytes}
use Rattle.tif_plate.proofs.Cuts.{sum-strip_counts, begins-strip_counts}

-- all packed rows follow the front, and the tail follows them
pub finishes : (width dpi : ℕ) (rows : List (List ℕ))
    → with_offset (tail_offset (strip_counts width rows)) ((front_bytes ++ flat_map packing rows) ++ tail_bytes width (length rows) dpi (strip_counts width rows)) ≡ plate_file width dpi rows
unfolding plate_file
finishes width dpi rows =
    let counts : List ℕ = strip_counts width rows in
    ap (λ n. with_offset (directory_offset (8 + n)) ((front_bytes ++ flat_map packing rows) ++ bytes_behind width (length rows) dpi (8 + n) (begins counts) counts)) (sum-strip_counts width rows)
    ∙ ap (λ places. with_offset (directory_offset (rows_end rows)) ((front_bytes ++ flat_map packing rows) ++ bytes_behind width (length rows) dpi (rows_end rows) places counts)) (begins-strip_counts width rows)
