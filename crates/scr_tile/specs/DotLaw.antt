-- The dot law of ordered dither.
use Rattle.std.specs.Prelude.{◌≡◌, ℕ, ◌*◌, ◌/◌, ◌^◌, ◌<◌, Bool, ◌==◌, List, map, count_by, nat_lt, sum_by}
use Rattle.std.specs.List.{range_with_len}
use Rattle.scr_tile.specs.Tile.{bayer_index, threshold_at, tile_bit}

-- how many pixels of one tile of side n pass a test of column and row
abbrev pub pixel_count : ℕ → (ℕ → ℕ → Bool) → ℕ
pixel_count n test =
    sum_by (λ y. count_by (λ x. test x y) (range_with_len 0 n)) (range_with_len 0 n)

-- each number below n ^ 2 is the index of exactly one pixel
abbrev pub HasEachIndexOnce : ℕ → Type 0
HasEachIndexOnce n = (i : ℕ) → i < n ^ 2 → pixel_count n (λ x y. bayer_index n x y == i) ≡ 1

-- the thresholds of the indexes of side n, in the order of the indexes
abbrev pub thresholds : ℕ → List ℕ
thresholds n = map (λ i. i * 255 / n ^ 2) (range_with_len 0 (n ^ 2))

-- on one whole tile, a flat value prints as many dots as there are thresholds below it
abbrev pub PrintsThresholdsBelow : ℕ → Type 0
PrintsThresholdsBelow n =
    (value : ℕ) → pixel_count n (λ x y. tile_bit value (threshold_at n x y))
    ≡ count_by (λ t. nat_lt t value) (thresholds n)
