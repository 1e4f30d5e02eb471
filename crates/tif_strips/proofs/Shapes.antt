-- The strips of a plane and their rows, by count.
use Rattle.std.proofs.Common.{◌≡◌, ℕ, ◌+◌, ◌-◌, ◌*◌, ◌/◌, ◌%◌, ◌<◌, ◌≤◌, ◌≢◌, Bool, true, false, ◌&&◌, ◌==◌, if◌then◌else◌, refl, ap, arith}
use Rattle.std.proofs.Math.Nat.{mul-le-mul_right}
use Rattle.std.proofs.lemmas.Nat.{div-add-mod', le-div, mod_below, mod-mul-add}
use Rattle.std.proofs.lemmas.Bool.Decides.{nat_tests}
use Rattle.pr_base.specs.Row.{row_size}
use Rattle.tif_strips.specs.declared.shape.Shape.{Shape}
use Rattle.tif_strips.specs.Strips.{IsStriped, column_place, needed_length, part_length, plane_part_length, plane_place, plane_row_length, planes, row_length, strip_count, strip_rows, strips_per_plane}

-- the rows above strip i of a plane are fewer than the rows of the image
pub rows_above : (shape : Shape) (i : ℕ) → IsStriped shape → i < strips_per_plane shape
    → i * shape.rows_per_strip < shape.length
unfolding strips_per_plane
rows_above shape i striped below =
    let all = shape.length + shape.rows_per_strip - 1 in
    let next : i + 1 ≤ all / shape.rows_per_strip = omega arith in
    let scaled : (i + 1) * shape.rows_per_strip ≤ all / shape.rows_per_strip * shape.rows_per_strip = mul-le-mul_right shape.rows_per_strip next in
    let whole = div-add-mod' all shape.rows_per_strip in
    let some = striped.length in
    omega arith

-- row y is in a strip of the plane
pub strip_of_row : (shape : Shape) (y : ℕ) → IsStriped shape → y < shape.length
    → y / shape.rows_per_strip < strips_per_plane shape
unfolding strips_per_plane
strip_of_row shape y striped below =
    let whole = div-add-mod' y shape.rows_per_strip in
    let some = striped.rows_per_strip in
    let next = le-div (y / shape.rows_per_strip + 1) (shape.length + shape.rows_per_strip - 1) shape.rows_per_strip (omega arith) (omega arith) in
    omega arith

-- row y is among the rows of that strip
pub row_in_strip : (shape : Shape) (y : ℕ) → IsStriped shape → y < shape.length
    → y % shape.rows_per_strip < strip_rows shape (y / shape.rows_per_strip)
unfolding strip_rows
row_in_strip shape y striped below =
    let whole = div-add-mod' y shape.rows_per_strip in
    let some = striped.rows_per_strip in
    let part = mod_below y shape.rows_per_strip (omega arith) in
    omega arith

-- each strip above it is full
pub strip_rows-above : (shape : Shape) (y j : ℕ) → y < shape.length → j < y / shape.rows_per_strip
    → strip_rows shape j ≡ shape.rows_per_strip
unfolding strip_rows
strip_rows-above shape y j below above =
    let whole = div-add-mod' y shape.rows_per_strip in
    let next : j + 1 ≤ y / shape.rows_per_strip = omega arith in
    let scaled : (j + 1) * shape.rows_per_strip ≤ y / shape.rows_per_strip * shape.rows_per_strip = mul-le-mul_right shape.rows_per_strip next in
    omega arith

-- a row of a strip is a row of an image
pub strip_rows-within : (shape : Shape) (i above : ℕ) → IsStriped shape → above < strip_rows shape i
    → above ≤ 65535
unfolding strip_rows
strip_rows-within shape i above striped below = omega (arith, striped.length.1)

-- strip i of a plane is among all strips
pub strip_number : (shape : Shape) (plane i : ℕ) → plane < planes shape → i < strips_per_plane shape
    → plane * strips_per_plane shape + i < strip_count shape
unfolding strip_count
strip_number shape plane i known below =
    let next : plane + 1 ≤ planes shape = omega arith in
    let scaled : (plane + 1) * strips_per_plane shape ≤ planes shape * strips_per_plane shape = mul-le-mul_right (strips_per_plane shape) next in
    omega arith

-- the bytes that strip i of a plane needs
pub needed_length-in_plane : (shape : Shape) (plane i : ℕ) → i < strips_per_plane shape
    → needed_length shape (plane * strips_per_plane shape + i) ≡ strip_rows shape i * plane_row_length shape
unfolding needed_length
needed_length-in_plane shape plane i below =
    ap (λ j. strip_rows shape j * plane_row_length shape) (mod-mul-add plane (strips_per_plane shape) i below)

-- row y is within the bytes that its strip needs
pub row_in_needed : (shape : Shape) (plane y : ℕ) → IsStriped shape → y < shape.length
    → y % shape.rows_per_strip * plane_row_length shape + plane_row_length shape
    ≤ needed_length shape (plane * strips_per_plane shape + y / shape.rows_per_strip)
row_in_needed shape plane y striped below =
    let needed = needed_length-in_plane shape plane (y / shape.rows_per_strip) (strip_of_row shape y striped below) in
    let next : y % shape.rows_per_strip + 1 ≤ strip_rows shape (y / shape.rows_per_strip) = omega (arith, row_in_strip shape y striped below) in
    let scaled : (y % shape.rows_per_strip + 1) * plane_row_length shape ≤ strip_rows shape (y / shape.rows_per_strip) * plane_row_length shape =
    mul-le-mul_right (plane_row_length shape) next in
    omega arith

-- an image has at most four planes
pub planes-within : (shape : Shape) → planes shape ≤ 4
unfolding planes
planes-within shape = grind (arith, nat_tests)

-- upper bounds of a strip's number
pub ruleset numbers = (strip_number, strip_of_row, planes-within)

-- a length by planes: four samples side by side, one of four planes, or bits
by_planes : (four apart : Bool) (count size : ℕ)
    → (if four then 4 * count else size)
    ≡ (if four && apart then 4 else 1) * (if four then if apart then count else 4 * count else size)
by_planes true true count size = refl
by_planes true false count size = omega arith
by_planes false apart count size = omega arith

-- the row lengths of all planes add up to that of the image
pub row_length-planes : (shape : Shape) → row_length shape ≡ planes shape * plane_row_length shape
unfolding planes plane_row_length
row_length-planes shape = by_planes (shape.samples == 4) (shape.planar == 2) shape.width _

-- if there is more than one plane, there are four, and a row of a plane has one byte per pixel
pub four_planes : (shape : Shape) → planes shape ≢ 1
    → (planes shape ≡ 4) × (row_length shape ≡ 4 * shape.width) × (plane_row_length shape ≡ shape.width)
unfolding planes plane_row_length
four_planes shape more = rows (shape.samples == 4) (shape.planar == 2) shape.width (row_size shape.width) more
  where
    rows : (four apart : Bool) (width size : ℕ) → ◌≢◌ {A = ℕ} (if four && apart then 4 else 1) 1
        → (◌≡◌ {A = ℕ} (if four && apart then 4 else 1) 4) × ((if four then 4 * width else size) ≡ 4 * width)
        × ((if four then if apart then width else 4 * width else size) ≡ width)
    rows true true width size more = (refl, refl, refl)
    rows true false width size more = absurd (more refl)
    rows false apart width size more = absurd (more refl)

-- so a row of one ink has a byte for each pixel
pub ink_wide : (shape : Shape) → planes shape ≡ 4 → plane_row_length shape ≡ shape.width
ink_wide shape four = (four_planes shape (λ one. absurd (omega arith))).2

-- ---- parts of a row

-- the lengths of a part in all planes add up to its length in the image's row
pub part_length-planes : (shape : Shape) (first count : ℕ)
    → part_length shape first count ≡ planes shape * plane_part_length shape first count
unfolding planes plane_part_length
part_length-planes shape first count = by_planes (shape.samples == 4) (shape.planar == 2) count _

-- the part is within the row
pub part_in_row : (shape : Shape) (first count : ℕ) → first + count ≤ shape.width
    → plane_place shape first + plane_part_length shape first count ≤ plane_row_length shape
unfolding plane_place plane_part_length plane_row_length
part_in_row shape first count within = parts (shape.samples == 4) (shape.planar == 2)
  where
    parts : (four apart : Bool)
        → (if four then if apart then first else 4 * first else first / 8) +
        (if four then if apart then count else 4 * count else row_size (first % 8 + count))
        ≤ (if four then if apart then shape.width else 4 * shape.width else row_size shape.width)
    parts true true = omega arith
    parts true false = omega arith
    parts false apart = omega arith

-- the only plane has the rows of the image
pub one_plane : (shape : Shape) (first count : ℕ) → planes shape ≡ 1
    → (plane_place shape first ≡ column_place shape first) × (plane_part_length shape first count
    ≡ part_length shape first count)
unfolding planes plane_place plane_part_length
one_plane shape first count one = parts (shape.samples == 4) (shape.planar == 2) (first / 8) (row_size (first % 8 + count)) one
  where
    parts : (four apart : Bool) (place size : ℕ) → ◌≡◌ {A = ℕ} (if four && apart then 4 else 1) 1
        → ((if four then if apart then first else 4 * first else place) ≡ (if four then 4 * first else place))
        × ((if four then if apart then count else 4 * count else size) ≡ (if four then 4 * count else size))
    parts true true place size one = absurd (omega arith)
    parts true false place size one = (refl, refl)
    parts false apart place size one = (refl, refl)

-- with four planes, each has one byte per pixel
pub four_places : (shape : Shape) (first count : ℕ) → planes shape ≢ 1
    → (plane_place shape first ≡ first) × (plane_part_length shape first count ≡ count)
    × (column_place shape first ≡ 4 * first) × (part_length shape first count ≡ 4 * count)
unfolding planes plane_place plane_part_length
four_places shape first count more = parts (shape.samples == 4) (shape.planar == 2) (first / 8) (row_size (first % 8 + count)) more
  where
    parts : (four apart : Bool) (place size : ℕ) → ◌≢◌ {A = ℕ} (if four && apart then 4 else 1) 1
        → ((if four then if apart then first else 4 * first else place) ≡ first)
        × ((if four then if apart then count else 4 * count else size) ≡ count)
        × ((if four then 4 * first else place) ≡ 4 * first) × ((if four then 4 * count else size) ≡ 4 * count)
    parts true true place size more = (refl, refl, refl, refl)
    parts true false place size more = absurd (more refl)
    parts false apart place size more = absurd (more refl)
