-- The rows of the black plate of an image, pushed one by one.
use Rattle.std.proofs.Common.{◌≡◌, ℕ, ◌+◌, ◌<◌, List, ◌∷◌, [], ◌++◌, length, map, take, refl, sym, ap, subst, ◌∙◌, arith}
use Rattle.std.specs.List.{All, range_with_len}
use Rattle.std.proofs.lemmas.List.FromFn.{get_or-map-range_with_len, length-map-range_with_len, map-range_with_len_more}
use Rattle.pr_base.specs.Row.{row_size}
use Rattle.pr_base.proofs.Bits.{length-packed_row}
use Rattle.scr_tile.specs.Tile.{threshold_at, tile_bit}
use Rattle.tif_packbits.specs.Packbits.{packing}
use Rattle.tif_strips.specs.declared.shape.Shape.{Shape}
use Rattle.tif_strips.specs.Strips.{Cursor}
use Rattle.tif_image.specs.Image.{sample_at}
use Rattle.plate_bytes.specs.Made.{PlateState, HasAllRows, TakesRow, so_far, whole}
use Rattle.cmd_one.specs.One.{black_row, black_rows, black_plate}

-- the first y rows
abbrev pub first_rows : Shape → List ℕ → ℕ → List (List ℕ)
first_rows shape bytes y = map (black_row shape bytes) (range_with_len 0 y)

-- each of them has the length of a row
row-lengths : (shape : Shape) (bytes : List ℕ) (n : ℕ) → All (λ row. length row ≡ row_size shape.width) (first_rows shape bytes n)
row-lengths shape bytes n = λ k d less.
    let within : k < n = omega (arith, length-map-range_with_len (black_row shape bytes) 0 n) in
    ap length (get_or-map-range_with_len (black_row shape bytes) 0 n k k d within (omega arith))
    ∙ length-packed_row shape.width (λ x. tile_bit (sample_at shape bytes x k 3) (threshold_at 4 x k))

length-first : (shape : Shape) (bytes : List ℕ) (y : ℕ) → length (first_rows shape bytes y) ≡ y
length-first shape bytes y = length-map-range_with_len (black_row shape bytes) 0 y

-- the packed bytes of a step are those of row y
pub piece_is : (rows : Cursor) (shape : Shape) (bytes : List ℕ) (y n : ℕ) (packed : List ℕ) → rows ≡ record { shape = shape; bytes = bytes; next = y }
    → take n packed ≡ packing (black_row rows.shape rows.bytes y) → take n packed ≡ packing (black_row shape bytes y)
piece_is rows shape bytes y n packed at is = is ∙ ap {A = Cursor} (λ cursor. packing (black_row cursor.shape cursor.bytes y)) at

-- a plate with the first y rows accepts row y
pub takes_black : (shape : Shape) (bytes : List ℕ) (y : ℕ) (plate : PlateState) (packed : List ℕ) → plate ≡ so_far shape.width shape.length 1200 (first_rows shape bytes y) → y < shape.length
    → packed ≡ packing (black_row shape bytes y) → TakesRow plate (first_rows shape bytes y) (black_row shape bytes y) packed
unfolding so_far
takes_black shape bytes y plate packed is below packed-is =
    subst (λ (p : PlateState). TakesRow p (first_rows shape bytes y) (black_row shape bytes y) packed) (sym is)
    (record {
      has = record { is = refl; each = row-lengths shape bytes y };
      more = omega (arith, length-first shape bytes y, below);
      size = length-packed_row shape.width (λ x. tile_bit (sample_at shape bytes x y 3) (threshold_at 4 x y));
      is = packed-is;
    })

-- the plate then has one row more
pub pushed_black : (shape : Shape) (bytes : List ℕ) (y : ℕ) (plate new : PlateState) → plate ≡ so_far shape.width shape.length 1200 (first_rows shape bytes y)
    → new ≡ so_far plate.width plate.height plate.dpi (first_rows shape bytes y ++ black_row shape bytes y ∷ []) → new ≡ so_far shape.width shape.length 1200 (first_rows shape bytes (y + 1))
unfolding so_far
pushed_black shape bytes y plate new is more =
    more
    ∙ ap {A = PlateState} (λ p. so_far p.width p.height p.dpi (first_rows shape bytes y ++ black_row shape bytes y ∷ [])) is
    ∙ ap (so_far shape.width shape.length 1200) (sym (map-range_with_len_more (black_row shape bytes) 0 y y (omega arith)))

-- a plate with all rows can be finished
pub has_black : (shape : Shape) (bytes : List ℕ) (plate : PlateState) → plate ≡ so_far shape.width shape.length 1200 (black_rows shape bytes) → HasAllRows plate (black_rows shape bytes)
unfolding so_far
has_black shape bytes plate is =
    subst (λ (p : PlateState). HasAllRows p (black_rows shape bytes)) (sym is)
    (record { has = record { is = refl; each = row-lengths shape bytes shape.length }; all = length-first shape bytes shape.length })

-- the finished plate is the black plate of the image
pub whole_black : (shape : Shape) (bytes : List ℕ) (plate new : PlateState) → plate ≡ so_far shape.width shape.length 1200 (black_rows shape bytes)
    → new ≡ whole plate.width plate.height plate.dpi (black_rows shape bytes) → new.bytes ≡ black_plate shape bytes
unfolding so_far whole
whole_black shape bytes plate new is all =
    ap {A = PlateState} (λ p. p.bytes) (all ∙ ap {A = PlateState} (λ p. whole p.width p.height p.dpi (black_rows shape bytes)) is)
