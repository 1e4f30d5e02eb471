-- A Bayer tile or a custom tile, as contracts see it: its sides, and the threshold of each pixel.
use Rattle.std.specs.Prelude.{ℕ, ◌+◌, ◌*◌, ◌%◌, slice_index}
use Rattle.scr_tile.specs.Tile.{number_at}
use Rattle.scr_tile.specs.declared.any_tile.AnyTile.{AnyTile}
use Rattle.scr_tile.specs.declared.any_tile.AnyTile.TheVariants.{B2, B4, B8, B16, Own}

-- the sides of a tile in pixels: its width and its height
abbrev pub tile_sides : AnyTile → ℕ × ℕ
tile_sides (B2 rows) = (2, 2)
tile_sides (B4 rows) = (4, 4)
tile_sides (B8 rows) = (8, 8)
tile_sides (B16 rows) = (16, 16)
tile_sides (Own numbers) = (numbers.width, numbers.height)

abbrev pub tile_width : AnyTile → ℕ
tile_width tile = (tile_sides tile).0

abbrev pub tile_height : AnyTile → ℕ
tile_height tile = (tile_sides tile).1

-- the threshold of the pixel in column x and row y, with the tile repeated edge to edge
abbrev pub threshold_of : AnyTile → ℕ → ℕ → ℕ
threshold_of (B2 rows) x y = number_at rows (x % 2) (y % 2)
threshold_of (B4 rows) x y = number_at rows (x % 4) (y % 4)
threshold_of (B8 rows) x y = number_at rows (x % 8) (y % 8)
threshold_of (B16 rows) x y = number_at rows (x % 16) (y % 16)
threshold_of (Own numbers) x y =
    slice_index numbers.at ((y % numbers.height) * numbers.width + x % numbers.width)
