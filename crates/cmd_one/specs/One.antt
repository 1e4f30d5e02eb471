-- The black plate of one image.
use Rattle.std.specs.Prelude.{ℕ, List, map}
use Rattle.std.specs.List.{range_with_len}
use Rattle.pr_base.specs.Bits.{packed_row}
use Rattle.scr_tile.specs.Tile.{threshold_at, tile_bit}
use Rattle.tif_strips.specs.declared.shape.Shape.{Shape}
use Rattle.tif_image.specs.Image.{sample_at}
use Rattle.tif_plate.specs.Plate.{plate_file}

-- row y: the tile bits of the black samples under the Bayer tile of side 4
abbrev pub black_row : Shape → List ℕ → ℕ → List ℕ
black_row shape bytes y =
    packed_row shape.width (λ x. tile_bit (sample_at shape bytes x y 3) (threshold_at 4 x y))

-- all rows, from the top
abbrev pub black_rows : Shape → List ℕ → List (List ℕ)
black_rows shape bytes = map (black_row shape bytes) (range_with_len 0 shape.length)

-- the plate, with the width and length of the image, at 1200 pixels per inch
abbrev pub black_plate : Shape → List ℕ → List ℕ
black_plate shape bytes = plate_file shape.width 1200 (black_rows shape bytes)
