-- The rows of a strip that a cursor has still to produce, from the strip's start to its end.
use Rattle.std.proofs.Common.{lit<, ◌≡◌, ◌≢◌, ℕ, zero, suc, ◌+◌, ◌-◌, ◌*◌, ◌/◌, ◌%◌, ◌<◌, ◌≤◌, List, [], ◌∷◌, length, map, take, drop, get_or, slice_index, None, inl, inr, refl, sym, ap, ◌∙◌, zero-add, arith}
use Rattle.std.proofs.Math.Nat.{mul-le-mul_right}
use Rattle.std.proofs.lemmas.Bool.{cases_eq}
use Rattle.std.specs.List.{range_with_len}
use Rattle.std.proofs.lemmas.List.{drop-drop, ext_get_or, get_or-drop, get_or-map, get_or-take, length-drop, length-map, length-take-le}
use Rattle.std.proofs.lemmas.List.FromFn.{get_or-map-range_with_len, length-map-range_with_len}
use Rattle.std.proofs.lemmas.Nat.{div-add-mod', div-mul-add, mod_below, mod-mul-add}
use Rattle.tif_strips.specs.declared.place.Place.{Place}
use Rattle.tif_strips.specs.declared.planes.Planes.{Planes}
use Rattle.tif_strips.specs.declared.shape.Shape.{Shape}
use Rattle.tif_strips.specs.Strips.{Image, IsStriped, image_part, image_row, ink_part, part_length, plane_part_length, plane_place, plane_row, plane_row_length, planes, row_length, samples_in, stored_bytes, strip_fault, strip_rows, strips_per_plane}
use Rattle.tif_strips.specs.Planes.{FitInks, HasPixels, TakeInks, aheads_of, strip_samples}
use Rattle.tif_strips.specs.Place.{HoldsRows, IsPlace, TakeParts}
use Rattle.tif_strips.proofs.Faults.{fault_of_strip-passed, strip_enough-passed}
use Rattle.tif_strips.proofs.Ahead.{get_or-later}
use Rattle.tif_strips.proofs.Inks.{image_part-inks, image_row-fours, image_row-ink, image_row-one}
use Rattle.tif_strips.proofs.Rows.{plane_row-in_strip, take-drop-take}
use Rattle.tif_strips.proofs.Shapes.{four_places, four_planes, ink_wide, needed_length-in_plane, one_plane, part_in_row, row_length-planes, strip_number, strip_of_row}

-- the samples of strip i of a plane are its rows
pub HoldsRows-begin : (image : Image) (plane i : ℕ) → IsStriped image.shape
    → strip_fault image.shape image.bytes ≡ None → plane < planes image.shape
    → i < strips_per_plane image.shape
    → HoldsRows image plane (i * image.shape.rows_per_strip) (strip_rows image.shape i)
    (samples_in image.shape.packed (stored_bytes image.shape image.bytes
    (plane * strips_per_plane image.shape + i)))
unfolding strip_rows
HoldsRows-begin image plane i striped passed known below =
    let shape = image.shape in
    let strip = plane * strips_per_plane shape + i in
    let needed = needed_length-in_plane shape plane i below in
    let enough = strip_enough-passed shape image.bytes strip (fault_of_strip-passed shape image.bytes strip passed (strip_number shape plane i known below)) in
    record {
      enough = rw needed at enough;
      each = λ k under.
          let small : k < shape.rows_per_strip = omega arith in
          let inside : i * shape.rows_per_strip + k < shape.length = omega arith in
          let row = plane_row-in_strip shape image.bytes plane (i * shape.rows_per_strip + k) striped passed known inside in
          rw (div-mul-add i shape.rows_per_strip k small, mod-mul-add i shape.rows_per_strip k small) at row;
    }

-- the samples after the first count rows
pub HoldsRows-later : (image : Image) (plane y rows count : ℕ) (samples : List ℕ)
    → HoldsRows image plane y rows samples → count ≤ rows
    → HoldsRows image plane (y + count) (rows - count) (drop (count * plane_row_length image.shape) samples)
HoldsRows-later image plane y rows count samples holds fits =
    let b = plane_row_length image.shape in
    record {
      enough = rw (length-drop (count * b) samples) (rest_enough rows count b (length samples) fits holds.enough);
      each = λ k under.
          let place : count * b + k * b ≡ (count + k) * b = omega arith in
          let row : y + (count + k) ≡ y + count + k = omega arith in
          ap (take b) (drop-drop (k * b) (count * b) samples ∙ ap (λ n. drop n samples) place) ∙ holds.each (count + k) (omega arith)
          ∙ ap (plane_row image.shape image.bytes plane) row;
    }
  where
    rest_enough : (rows count b n : ℕ) → count ≤ rows → rows * b ≤ n → (rows - count) * b ≤ n - count * b
    rest_enough rows count b n fits enough =
        let rest = rows - count in
        let both : rows ≡ count + rest = omega arith in
        let all : (count + rest) * b ≤ n = rw both at enough in
        omega arith

-- where no row of a strip is left, the next strip begins
at_strip_end : (image : Image) (place : Place) → IsPlace image place → place.rows ≡ 0
    → place.next < image.shape.length → place.next ≡ place.begun * image.shape.rows_per_strip
at_strip_end image place is none left = omega (arith, is.to_strip_end)

pub begun_within : (image : Image) (place : Place) → IsPlace image place → place.rows ≡ 0
    → place.next < image.shape.length → place.begun < strips_per_plane image.shape
begun_within image place is none left =
    let rows = image.shape.rows_per_strip in
    let some : 0 < rows = omega (arith, is.striped.rows_per_strip) in
    let at : place.begun * rows + 0 ≡ place.next = omega (arith, at_strip_end image place is none left) in
    let strip : place.next / rows ≡ place.begun = ap (λ y. y / rows) (sym at) ∙ div-mul-add place.begun rows 0 some in
    rw strip at (strip_of_row image.shape place.next is.striped left)

-- after a strip is started, its rows come first among its samples
pub IsPlace-begin : (image : Image) (place : Place) (begun : Planes) (rows : ℕ) → IsPlace image place
    → place.rows ≡ 0 → place.next < image.shape.length
    → aheads_of begun ≡ strip_samples image.shape image.bytes place.begun
    → rows ≡ strip_rows image.shape place.begun
    → IsPlace image (record { next = place.next; begun = place.begun + 1; rows = rows; planes = begun })
    × (0 < rows)
unfolding strip_rows
IsPlace-begin image place begun rows is none left samples rows_are =
    let shape = image.shape in
    let at = at_strip_end image place is none left in
    let within = begun_within image place is none left in
    let one = is.striped.rows_per_strip in
    let sample = λ (plane : ℕ). samples_in shape.packed (stored_bytes shape image.bytes (plane * strips_per_plane shape + place.begun)) in (
      record {
        striped = is.striped;
        passed = is.passed;
        to_strip_end = omega arith;
        all_planes = λ some. ap length samples ∙ length-map-range_with_len sample 0 (planes shape);
        each = λ plane known.
            let own : get_or (aheads_of begun) plane [] ≡ sample plane = ap (λ lists. get_or lists plane []) samples ∙ get_or-map-range_with_len sample 0 (planes shape) plane plane [] known (zero-add plane) in
            rw (own, at, rows_are) (HoldsRows-begin image plane place.begun is.striped is.passed known within);
      },
      omega arith,
    )

-- the strip at the end of another has rows
pub begun_rows : (image : Image) (place : Place) → IsPlace image place → place.rows ≡ 0
    → place.next < image.shape.length → 0 < strip_rows image.shape place.begun
unfolding strip_rows
begun_rows image place is none left =
    let at = at_strip_end image place is none left in
    let one = is.striped.rows_per_strip in
    omega arith

-- inside a strip, the rows behind those that were passed come first
pub IsPlace-inside : (image : Image) (place : Place) (y strip above rows : ℕ) (begun : Planes)
    → IsPlace image place → y < image.shape.length → strip ≡ y / image.shape.rows_per_strip
    → above ≡ y % image.shape.rows_per_strip → rows ≡ strip_rows image.shape strip - above
    → aheads_of begun
    ≡ map (drop (above * plane_row_length image.shape)) (strip_samples image.shape image.bytes strip)
    → IsPlace image (record { next = y; begun = strip + 1; rows = rows; planes = begun })
unfolding strip_rows
IsPlace-inside image place y strip above rows begun is below strip_is above_is rows_is samples =
    let shape = image.shape in
    let sample = λ (plane : ℕ). samples_in shape.packed (stored_bytes shape image.bytes (plane * strips_per_plane shape + strip)) in
    let some : 0 < shape.rows_per_strip = omega (arith, is.striped.rows_per_strip) in
    let whole : strip * shape.rows_per_strip + above ≡ y = ap (λ n. n * shape.rows_per_strip + above) strip_is ∙ ap (λ n. y / shape.rows_per_strip * shape.rows_per_strip + n) above_is ∙ div-add-mod' y shape.rows_per_strip in
    let small : above < shape.rows_per_strip = rw above_is (mod_below y shape.rows_per_strip some) in
    let within : strip < strips_per_plane shape = rw strip_is (strip_of_row shape y is.striped below) in
    let next : (strip + 1) * shape.rows_per_strip ≡ strip * shape.rows_per_strip + shape.rows_per_strip = omega arith in
    let fits : above ≤ strip_rows shape strip = omega arith in
    record {
      striped = is.striped;
      passed = is.passed;
      to_strip_end = omega arith;
      all_planes = λ more. ap length samples ∙ length-map (strip_samples shape image.bytes strip) (drop (above * plane_row_length shape)) ∙ length-map-range_with_len sample 0 (planes shape);
      each = λ plane known.
          let count : length (strip_samples shape image.bytes strip) ≡ planes shape = length-map-range_with_len sample 0 (planes shape) in
          let own : get_or (aheads_of begun) plane [] ≡ drop (above * plane_row_length shape) (sample plane) =
          ap (λ lists. get_or lists plane []) samples ∙ get_or-map (drop (above * plane_row_length shape)) (strip_samples shape image.bytes strip) plane [] [] (omega arith)
          ∙ ap (drop (above * plane_row_length shape)) (get_or-map-range_with_len sample 0 (planes shape) plane plane [] known (zero-add plane)) in
          let later = HoldsRows-later image plane (strip * shape.rows_per_strip) (strip_rows shape strip) above (sample plane) (HoldsRows-begin image plane strip is.striped is.passed known within) fits in
          rw (own, rows_is, ← whole) later;
    }

-- behind the last row of the image no row is left of the strips that began
pub IsPlace-end : (image : Image) (place : Place) (y strip above : ℕ) (any : Planes) → IsPlace image place
    → y ≡ image.shape.length → strip ≡ y / image.shape.rows_per_strip
    → IsPlace image (record { next = y; begun = strip + 1; rows = 0; planes = any })
IsPlace-end image place y strip above any is end strip_is =
    let rows = image.shape.rows_per_strip in
    let some : 0 < rows = omega (arith, is.striped.rows_per_strip) in
    let whole = div-add-mod' y rows in
    let small = mod_below y rows some in
    let next : (strip + 1) * rows ≡ y / rows * rows + rows = ap (λ n. (n + 1) * rows) strip_is ∙ omega arith in
    record {
      striped = is.striped;
      passed = is.passed;
      to_strip_end = omega arith;
      all_planes = λ more. absurd (omega arith);
      each = λ plane known. record { enough = omega arith; each = λ k under. absurd (omega arith) };
    }

-- at the first sample of a strip none are passed
pub map-drop-none : (size : ℕ) (lists : List (List ℕ)) → map (drop (0 * size)) lists ≡ lists
map-drop-none size [] = refl
map-drop-none size (list ∷ rest) = (let none : 0 * size ≡ 0 = omega arith in ap (λ n. drop n list ∷ map (drop (0 * size)) rest) none ∙ ap (λ back. list ∷ back) (map-drop-none size rest))

-- `count` rows later
pub IsPlace-later : (image : Image) (place : Place) (count len : ℕ) (later : Planes) → IsPlace image place
    → 0 < place.rows → count ≤ place.rows → len ≡ count * plane_row_length image.shape
    → aheads_of later ≡ map (drop len) (aheads_of place.planes)
    → IsPlace image (record { next = place.next + count; begun = place.begun; rows = place.rows - count; planes = later })
IsPlace-later image place count len later is some fits len_is left = record {
  striped = is.striped;
  passed = is.passed;
  to_strip_end = omega (arith, is.to_strip_end);
  all_planes = λ more. ap length left ∙ length-map (aheads_of place.planes) (drop len) ∙ is.all_planes some;
  each = λ plane known.
      let own : get_or (aheads_of later) plane [] ≡ drop len (get_or (aheads_of place.planes) plane []) =
      ap (λ lists. get_or lists plane []) left ∙ get_or-map (drop len) (aheads_of place.planes) plane [] [] (omega (arith, is.all_planes some)) in
      rw (own, len_is) (HoldsRows-later image plane place.next place.rows count _ (is.each plane known) fits);
}

-- each plane has a row ahead
pub row_ahead : (image : Image) (place : Place) (plane row : ℕ) → IsPlace image place → 0 < place.rows
    → row ≡ plane_row_length image.shape → plane < planes image.shape
    → take row (get_or (aheads_of place.planes) plane []) ≡ plane_row image.shape image.bytes plane place.next
row_ahead image place plane row is some row_is known =
    let b = plane_row_length image.shape in
    let first = (is.each plane known).each 0 some in
    let front : 0 * b ≡ 0 = omega arith in
    let here : place.next + 0 ≡ place.next = omega arith in
    rw row_is (rw (front, here) at first)

-- each plane has at least a row of bytes ahead
pub row_long : (image : Image) (place : Place) (plane row : ℕ) → IsPlace image place → 0 < place.rows
    → row ≡ plane_row_length image.shape → plane < planes image.shape
    → row ≤ length (get_or (aheads_of place.planes) plane [])
row_long image place plane row is some row_is known = rw row_is (one_row place.rows (plane_row_length image.shape) _ some (is.each plane known).enough)
  where
    one_row : (rows b n : ℕ) → 0 < rows → rows * b ≤ n → b ≤ n
    one_row zero b n some enough = absurd (omega arith)
    one_row (suc rows) b n some enough = omega arith

-- a row of the image has the image's row length
pub image_row-long : (image : Image) (place : Place) (row : ℕ) → IsPlace image place → 0 < place.rows
    → row ≡ plane_row_length image.shape
    → length (image_row image.shape image.bytes place.next) ≡ row_length image.shape
image_row-long image place row is some row_is =
    let shape = image.shape in
    elim (cases_eq (planes shape) 1) [
      | inl one ↦
          let known : 0 < planes shape = omega (arith, one) in
          let own = row_ahead image place 0 row is some row_is known ∙ image_row-one shape image.bytes place.next one in
          let whole : row_length shape ≡ 1 * plane_row_length shape = row_length-planes shape ∙ ap (λ n. n * plane_row_length shape) one in
          ap length (sym own) ∙ length-take-le row _ (row_long image place 0 row is some row_is known) ∙ omega arith
      | inr more ↦ image_row-fours shape image.bytes place.next more
    ]

-- the planes' next samples are a part of the image's row
pub image_part-place : (image : Image) (place : Place) (row from len first count : ℕ) (into : List ℕ)
    → IsPlace image place → 0 < place.rows → row ≡ plane_row_length image.shape
    → from ≡ plane_place image.shape first → len ≡ plane_part_length image.shape first count
    → first + count ≤ image.shape.width → length into ≡ part_length image.shape first count
    → (length (aheads_of place.planes) ≡ 1
    → into ≡ take len (drop from (get_or (aheads_of place.planes) 0 [])))
    → (length (aheads_of place.planes) ≢ 1 → HasPixels (map (drop from) (aheads_of place.planes)) len into)
    → into ≡ image_part image.shape image.bytes place.next first count
image_part-place image place row from len first count into is some row_is from_is len_is within room one four =
    let shape = image.shape in
    let aheads = aheads_of place.planes in
    elim (cases_eq (length aheads) 1) [
      | inl alone ↦
          let planes_one : planes shape ≡ 1 = sym (is.all_planes some) ∙ alone in
          let own = row_ahead image place 0 row is some row_is (omega (arith, planes_one)) ∙ image_row-one shape image.bytes place.next planes_one in
          let same = one_plane shape first count planes_one in
          let inside : from + len ≤ row = omega (arith, part_in_row shape first count within) in
          one alone ∙ sym (take-drop-take len from row (get_or aheads 0 []) inside) ∙ ap (λ list. take len (drop from list)) own
          ∙ ap (λ n. take n (drop from (image_row shape image.bytes place.next))) (len_is ∙ same.1)
          ∙ ap (λ n. take (part_length shape first count) (drop n (image_row shape image.bytes place.next))) (from_is ∙ same.0)
      | inr apart ↦
          let more : planes shape ≢ 1 = λ e. apart (is.all_planes some ∙ e) in
          let same = four_places shape first count more in
          let all : length aheads ≡ 4 = is.all_planes some ∙ (four_planes shape more).0 in
          image_part-inks shape image.bytes place.next row first count aheads into more row_is within room
          (λ ink small. row_ahead image place ink row is some row_is (omega (arith, (four_planes shape more).0)))
          (λ x ink below small.
          (four apart).each x ink (omega (arith, len_is, same.1)) small
          ∙ ap (λ list. get_or list x 0) (get_or-later from ink aheads _ refl (omega (arith, all)))
          ∙ get_or-drop from (get_or aheads ink []) x 0 ∙ ap (λ n. get_or (get_or aheads ink []) (n + x) 0) (from_is ∙ same.0))
    ]

-- the next samples of a plane are one ink of the image's row
pub ink_part-place : (image : Image) (place : Place) (row first count ink : ℕ) (into : List ℕ)
    → IsPlace image place → 0 < place.rows → row ≡ plane_row_length image.shape → planes image.shape ≡ 4
    → ink < 4 → first + count ≤ image.shape.width
    → into ≡ take count (drop first (get_or (aheads_of place.planes) ink []))
    → into ≡ ink_part image.shape image.bytes place.next ink first count
unfolding ink_part
ink_part-place image place row first count ink into is some row_is four small within into_is =
    let shape = image.shape in
    let ahead = get_or (aheads_of place.planes) ink [] in
    let more : planes shape ≢ 1 = λ one. absurd (omega arith) in
    let known : ink < planes shape = omega arith in
    let wide : row ≡ shape.width = row_is ∙ ink_wide shape four in
    let sample = λ (x : ℕ). slice_index (image_row shape image.bytes place.next) (4 * x + ink) in
    let long : length (take count (drop first ahead)) ≡ count = length-take-le count (drop first ahead) (omega (arith, length-drop first ahead, row_long image place ink row is some row_is known)) in
    into_is
    ∙ ext_get_or 0 (take count (drop first ahead)) (map sample (range_with_len first count)) (long ∙ sym (length-map-range_with_len sample first count))
    (λ x below.
    let inside : x < count = omega arith in
    get_or-take count (drop first ahead) x 0 inside
    ∙ get_or-drop first ahead x 0
    ∙ sym (get_or-take row ahead (first + x) 0 (omega arith))
    ∙ ap (λ list. get_or list (first + x) 0) (row_ahead image place ink row is some row_is known)
    ∙ image_row-ink shape image.bytes place.next (first + x) ink more (omega arith) small
    ∙ sym (get_or-map-range_with_len sample first count x (first + x) 0 inside refl))

-- all four of them
pub inks_part-place : (image : Image) (place : Place) (row first : ℕ)
    (c m y k cyan magenta yellow black : List ℕ) → IsPlace image place → 0 < place.rows
    → row ≡ plane_row_length image.shape
    → planes image.shape ≡ 4 → FitInks image.shape.width first c m y k
    → TakeInks (aheads_of place.planes) first c m y k cyan magenta yellow black
    → TakeParts image place.next first c m y k cyan magenta yellow black
inks_part-place image place row first c m y k cyan magenta yellow black is some row_is four fits takes = record {
  cyan_is = ink_part-place image place row first (length c) 0 cyan is some row_is four (lit< tt) fits.cyan takes.cyan_is;
  magenta_is = ink_part-place image place row first (length m) 1 magenta is some row_is four (lit< tt) fits.magenta takes.magenta_is;
  yellow_is = ink_part-place image place row first (length y) 2 yellow is some row_is four (lit< tt) fits.yellow takes.yellow_is;
  black_is = ink_part-place image place row first (length k) 3 black is some row_is four (lit< tt) fits.black takes.black_is;
}

-- the samples from a row of strip i on in each of four planes
pub strip_samples-four : (shape : Shape) (bytes : List ℕ) (i n : ℕ) (cyan magenta yellow black : List ℕ)
    → planes shape ≡ 4
    → cyan ≡ drop n (samples_in shape.packed (stored_bytes shape bytes (0 * strips_per_plane shape + i)))
    → magenta ≡ drop n (samples_in shape.packed (stored_bytes shape bytes (1 * strips_per_plane shape + i)))
    → yellow ≡ drop n (samples_in shape.packed (stored_bytes shape bytes (2 * strips_per_plane shape + i)))
    → black ≡ drop n (samples_in shape.packed (stored_bytes shape bytes (3 * strips_per_plane shape + i)))
    → cyan ∷ magenta ∷ yellow ∷ black ∷ [] ≡ map (drop n) (strip_samples shape bytes i)
strip_samples-four shape bytes i n cyan magenta yellow black four c m y k = rw (four, c, m, y, k) refl

-- and in the only plane
pub strip_samples-one : (shape : Shape) (bytes : List ℕ) (i n : ℕ) (own : List ℕ) → planes shape ≡ 1
    → own ≡ drop n (samples_in shape.packed (stored_bytes shape bytes (0 * strips_per_plane shape + i)))
    → own ∷ [] ≡ map (drop n) (strip_samples shape bytes i)
strip_samples-one shape bytes i n own one is = rw (one, is) refl

-- the rows above a row of a strip that passes are among its samples
pub above_enough : (shape : Shape) (bytes : List ℕ) (plane i above : ℕ) → strip_fault shape bytes ≡ None
    → plane < planes shape → i < strips_per_plane shape → above < strip_rows shape i
    → above * plane_row_length shape
    ≤ length (samples_in shape.packed (stored_bytes shape bytes (plane * strips_per_plane shape + i)))
above_enough shape bytes plane i above passed known below under =
    let strip = plane * strips_per_plane shape + i in
    let needed = needed_length-in_plane shape plane i below in
    let enough = strip_enough-passed shape bytes strip (fault_of_strip-passed shape bytes strip passed (strip_number shape plane i known below)) in
    let fits : above ≤ strip_rows shape i = omega arith in
    let scaled : above * plane_row_length shape ≤ strip_rows shape i * plane_row_length shape = mul-le-mul_right (plane_row_length shape) fits in
    omega arith
