-- Four inks interleaved into pixels, pixel by pixel and piece by piece.
use Rattle.std.proofs.Common.{◌≡◌, ◌≢◌, ℕ, zero, suc, ◌+◌, ◌-◌, ◌*◌, ◌<◌, ◌≤◌, List, [], ◌∷◌, ◌++◌, length, take, drop, get_or, set, inl, inr, refl, sym, ap, ◌∙◌, arith, zero-add}
use Rattle.std.proofs.lemmas.Bool.{cases_eq, cases_lt}
use Rattle.std.proofs.lemmas.List.{get_or-append_right, get_or-drop, get_or-set_other, get_or-set_same, get_or-take, get_or_append_left, length-drop, length-set, length-take-le, drop-drop, take_at}
use borrow.Rule.Slice.PartMut.{put_mid}
use Rattle.tif_strips.specs.declared.shape.Shape.{Shape}
use Rattle.tif_strips.specs.Strips.{image_part, image_row, part_length, plane_data, plane_row, plane_row_length, planes, planar_pixel, row_length}
use Rattle.tif_strips.specs.Planes.{HasPixels}
use Rattle.tif_strips.proofs.Fours.{get_or-fours, length-fours, part_of_fours}
use Rattle.tif_strips.proofs.Shapes.{four_places, four_planes}

-- before the first pixel
pub HasPixels-none : (inks : List (List ℕ)) (into : List ℕ) → HasPixels inks 0 into
HasPixels-none inks into = record { each = λ x ink below small. absurd (omega arith) }

-- case analysis over the four inks
four_ways : (P : ℕ → Type 0) → P 0 → P 1 → P 2 → P 3 → (ink : ℕ) → ink < 4 → P ink
four_ways P a b c d zero small = a
four_ways P a b c d (suc zero) small = b
four_ways P a b c d (suc (suc zero)) small = c
four_ways P a b c d (suc (suc (suc zero))) small = d
four_ways P a b c d (suc (suc (suc (suc ink)))) small = absurd (omega arith)

-- one more pixel of four samples
pub HasPixels-more : (cyan magenta yellow black into : List ℕ) (x : ℕ) → 4 * x + 3 < length into
    → HasPixels (cyan ∷ magenta ∷ yellow ∷ black ∷ []) x into
    → HasPixels (cyan ∷ magenta ∷ yellow ∷ black ∷ []) (x + 1)
    (set (set (set (set into (4 * x) (get_or cyan x 0)) (4 * x + 1) (get_or magenta x 0)) (4 * x + 2)
    (get_or yellow x 0)) (4 * x + 3) (get_or black x 0))
HasPixels-more cyan magenta yellow black into x room has = record {
  each = λ k ink below small.
      elim (cases_eq k x) [
        | inl same ↦ rw same (last ink small)
        | inr other ↦ earlier k ink (apart k below other) small ∙ has.each k ink (apart k below other) small
      ];
}
  where
    apart : (k : ℕ) → k < x + 1 → k ≢ x → k < x
    apart k below other = omega (arith, other)

    kept : (list : List ℕ) (i j value : ℕ) → j ≢ i → get_or (set list i value) j 0 ≡ get_or list j 0
    kept list i j value ne = get_or-set_other list i j value 0 ne

    earlier : (k ink : ℕ) → k < x → ink < 4
        → get_or (set (set (set (set into (4 * x) (get_or cyan x 0)) (4 * x + 1) (get_or magenta x 0))
        (4 * x + 2) (get_or yellow x 0)) (4 * x + 3) (get_or black x 0)) (4 * k + ink) 0 ≡ get_or into (4 * k + ink) 0
    earlier k ink below small =
        kept _ (4 * x + 3) (4 * k + ink) _ (omega arith)
        ∙ kept _ (4 * x + 2) (4 * k + ink) _ (omega arith)
        ∙ kept _ (4 * x + 1) (4 * k + ink) _ (omega arith)
        ∙ kept into (4 * x) (4 * k + ink) _ (omega arith)

    last : (ink : ℕ) → ink < 4
        → get_or (set (set (set (set into (4 * x) (get_or cyan x 0)) (4 * x + 1) (get_or magenta x 0))
        (4 * x + 2) (get_or yellow x 0)) (4 * x + 3) (get_or black x 0)) (4 * x + ink) 0 ≡ get_or (get_or (cyan ∷ magenta ∷ yellow ∷ black ∷ []) ink []) x 0
    last =
        let one = set into (4 * x) (get_or cyan x 0) in
        let two = set one (4 * x + 1) (get_or magenta x 0) in
        let three = set two (4 * x + 2) (get_or yellow x 0) in
        let long_one = length-set into (4 * x) (get_or cyan x 0) in
        let long_two = length-set one (4 * x + 1) (get_or magenta x 0) in
        let long_three = length-set two (4 * x + 2) (get_or yellow x 0) in
        let at : 4 * x + 0 ≡ 4 * x = omega arith in
        four_ways (λ ink. get_or (set three (4 * x + 3) (get_or black x 0)) (4 * x + ink) 0 ≡ get_or (get_or (cyan ∷ magenta ∷ yellow ∷ black ∷ []) ink []) x 0)
        (kept three (4 * x + 3) (4 * x + 0) _ (omega arith) ∙ kept two (4 * x + 2) (4 * x + 0) _ (omega arith) ∙ kept one (4 * x + 1) (4 * x + 0) _ (omega arith)
        ∙ ap (λ i. get_or one i 0) at ∙ get_or-set_same into (4 * x) _ 0 (omega arith))
        (kept three (4 * x + 3) (4 * x + 1) _ (omega arith) ∙ kept two (4 * x + 2) (4 * x + 1) _ (omega arith) ∙ get_or-set_same one (4 * x + 1) _ 0 (omega arith))
        (kept three (4 * x + 3) (4 * x + 2) _ (omega arith) ∙ get_or-set_same two (4 * x + 2) _ 0 (omega arith))
        (get_or-set_same three (4 * x + 3) _ 0 (omega arith))

-- a piece of n more pixels, interleaved from the samples from index `at` on
pub HasPixels-piece : (inks pieces : List (List ℕ)) (at n size : ℕ) (into part : List ℕ)
    → 4 * at + size ≤ length into → size ≡ 4 * n → length part ≡ size
    → ((ink x : ℕ) → ink < 4 → x < n → get_or (get_or pieces ink []) x 0
    ≡ get_or (get_or inks ink []) (at + x) 0) → HasPixels inks at into → HasPixels pieces n part
    → HasPixels inks (at + n) (put_mid (4 * at) size into part)
HasPixels-piece inks pieces at n size into part room whole long same has more = record {
  each = λ x ink below small.
      elim (cases_lt x at) [
        | inl before ↦
            get_or_append_left (take (4 * at) into) _ 0 (4 * x + ink) (omega (arith, front))
            ∙ get_or-take (4 * at) into (4 * x + ink) 0 (omega arith)
            ∙ has.each x ink before small
        | inr behind ↦
            let there : 4 * x + ink - 4 * at ≡ 4 * (x - at) + ink = omega arith in
            let back : at + (x - at) ≡ x = omega arith in
            get_or-append_right (take (4 * at) into) _ (4 * at) (4 * x + ink) 0 front (omega arith)
            ∙ get_or_append_left part _ 0 (4 * x + ink - 4 * at) (omega arith)
            ∙ ap (λ i. get_or part i 0) there
            ∙ more.each (x - at) ink (omega arith) small
            ∙ same ink (x - at) small (omega arith)
            ∙ ap (λ i. get_or (get_or inks ink []) i 0) back
      ];
}
  where
    front : length (take (4 * at) into) ≡ 4 * at
    front = length-take-le (4 * at) into (omega arith)

-- the samples read into a block are the next ones of their ink
pub block-given : (count at : ℕ) (block ahead start given : List ℕ) → count ≤ length block
    → at + count ≤ length start → ahead ≡ drop at start
    → given ≡ take (length (take count block)) ahead
    → take count (given ++ drop count block) ≡ take count (drop at start)
block-given count at block ahead start given room enough ahead_is is =
    let size : length (take count block) ≡ count = length-take-le count block room in
    let own : given ≡ take count (drop at start) = is ∙ ap (λ n. take n ahead) size ∙ ap (take count) ahead_is in
    let long : length given ≡ count = ap length own ∙ length-take-le count (drop at start) (omega (arith, length-drop at start)) in
    take_at given (drop count block) count long ∙ own

-- the samples after them are left
pub block-left : (count at : ℕ) (block ahead start left : List ℕ) → count ≤ length block
    → ahead ≡ drop at start → left ≡ drop (length (take count block)) ahead → left ≡ drop (at + count) start
block-left count at block ahead start left room ahead_is is =
    let size : length (take count block) ≡ count = length-take-le count block room in
    is ∙ ap (λ n. drop n ahead) size ∙ ap (drop count) ahead_is ∙ drop-drop count at start

-- a block of n more pixels, interleaved from the next samples of each ink
pub HasPixels-block : (cyan magenta yellow black c m y k : List ℕ) (at n size : ℕ) (into part : List ℕ)
    → 4 * at + size ≤ length into → size ≡ 4 * n → length part ≡ size → at + n ≤ length cyan
    → c ≡ take n (drop at cyan) → m ≡ take n (drop at magenta) → y ≡ take n (drop at yellow)
    → k ≡ take n (drop at black) → HasPixels (cyan ∷ magenta ∷ yellow ∷ black ∷ []) at into
    → HasPixels (c ∷ m ∷ y ∷ k ∷ []) (length c) part
    → HasPixels (cyan ∷ magenta ∷ yellow ∷ black ∷ []) (at + n) (put_mid (4 * at) size into part)
HasPixels-block cyan magenta yellow black c m y k at n size into part room whole long enough c_is m_is y_is k_is has more =
    let count : length c ≡ n = ap length c_is ∙ length-take-le n (drop at cyan) (omega (arith, length-drop at cyan)) in
    HasPixels-piece (cyan ∷ magenta ∷ yellow ∷ black ∷ []) (c ∷ m ∷ y ∷ k ∷ []) at n size into part room whole long
    (λ ink x small below.
    four_ways (λ i. get_or (get_or (c ∷ m ∷ y ∷ k ∷ []) i []) x 0 ≡ get_or (get_or (cyan ∷ magenta ∷ yellow ∷ black ∷ []) i []) (at + x) 0)
    (next c cyan x below c_is) (next m magenta x below m_is) (next y yellow x below y_is) (next k black x below k_is) ink small)
    has (rw count at more)
  where
    next : (piece start : List ℕ) (x : ℕ) → x < n → piece ≡ take n (drop at start)
        → get_or piece x 0 ≡ get_or start (at + x) 0
    next piece start x below is = ap (λ list. get_or list x 0) is ∙ get_or-take n (drop at start) x 0 below ∙ get_or-drop at start x 0

-- with one plane per ink, a row has four bytes per pixel
pub image_row-fours : (shape : Shape) (bytes : List ℕ) (y : ℕ) → planes shape ≢ 1
    → length (image_row shape bytes y) ≡ row_length shape
unfolding image_row planar_pixel
image_row-fours shape bytes y more =
    let four = four_planes shape more in
    rw (four.0, four.1) (length-fours (planar_pixel shape bytes y) 0 shape.width (λ x. refl))

-- pixels made of the planes' samples from a column on are a part of the image's row
pub image_part-inks : (shape : Shape) (bytes : List ℕ) (y row first count : ℕ) (inks : List (List ℕ))
    (into : List ℕ) → planes shape ≢ 1 → row ≡ plane_row_length shape → first + count ≤ shape.width
    → length into ≡ part_length shape first count
    → ((ink : ℕ) → ink < 4 → take row (get_or inks ink []) ≡ plane_row shape bytes ink y)
    → ((x ink : ℕ) → x < count → ink < 4 → get_or into (4 * x + ink) 0
    ≡ get_or (get_or inks ink []) (first + x) 0) → into ≡ image_part shape bytes y first count
unfolding image_row planar_pixel plane_row
image_part-inks shape bytes y row first count inks into more row_is within room rows each =
    let four = four_planes shape more in
    let places = four_places shape first count more in
    let long : length into ≡ 4 * count = room ∙ places.3 in
    let wide : row ≡ shape.width = row_is ∙ four.2 in
    rw (four.0, places.2, places.3) (part_of_fours (planar_pixel shape bytes y) first count shape.width into (λ x. refl) within long
    (λ x ink below small. each x ink below small ∙ sym (get_or-take row _ (first + x) 0 (omega arith)) ∙ ap (λ list. get_or list (first + x) 0) (rows ink small)
    ∙ get_or-take (plane_row_length shape) _ (first + x) 0 (omega (arith, four.2)) ∙ get_or-drop (y * plane_row_length shape) (plane_data shape bytes ink) (first + x) 0
    ∙ (rw four.2 (four_ways (λ i. get_or (plane_data shape bytes i) (y * shape.width + (first + x)) 0 ≡ get_or (planar_pixel shape bytes y (first + x)) i 0) refl refl refl refl ink small))))

-- a sample of a plane's row is that of its pixel in the image's row
pub image_row-ink : (shape : Shape) (bytes : List ℕ) (y x ink : ℕ) → planes shape ≢ 1 → x < shape.width
    → ink < 4 → get_or (plane_row shape bytes ink y) x 0 ≡ get_or (image_row shape bytes y) (4 * x + ink) 0
unfolding image_row planar_pixel plane_row
image_row-ink shape bytes y x ink more below small =
    let four = four_planes shape more in
    let pixel = get_or-fours (planar_pixel shape bytes y) 0 shape.width x ink (λ x. refl) below small ∙ ap (λ i. get_or (planar_pixel shape bytes y i) ink 0) (zero-add x) in
    rw four.0 (get_or-take (plane_row_length shape) _ x 0 (omega (arith, four.2)) ∙ get_or-drop (y * plane_row_length shape) (plane_data shape bytes ink) x 0
    ∙ (rw four.2 (four_ways (λ i. get_or (plane_data shape bytes i) (y * shape.width + x) 0 ≡ get_or (planar_pixel shape bytes y x) i 0) refl refl refl refl ink small))
    ∙ sym pixel)

-- if there is only one plane, its rows are the image's rows
pub image_row-one : (shape : Shape) (bytes : List ℕ) (y : ℕ) → planes shape ≡ 1
    → plane_row shape bytes 0 y ≡ image_row shape bytes y
unfolding image_row
image_row-one shape bytes y one = rw one refl
