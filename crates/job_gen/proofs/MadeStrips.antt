-- The strips of a generated image read back: they pass their tests, and their rows are the given ones.
use Rattle.std.proofs.Common.{◌≡◌, ℕ, zero, suc, ◌+◌, ◌-◌, ◌*◌, ◌/◌, ◌%◌, ◌<◌, ◌≤◌, ◌⊎◌, inl, inr, min, false, nat_lt, ◌==◌, List, [], ◌∷◌, ◌++◌, length, map, take, drop, get_or, slice_index, Some, None, Ok, refl, sym, ap, subst, ◌∙◌, arith}
use Rattle.std.specs.List.{flat_map, range_with_len}
use Rattle.std.specs.Result.{result_err, result_unwrap_or}
use Rattle.std.proofs.lemmas.Bool.{cases_lt}
use Rattle.std.proofs.lemmas.Bool.Decides.{nat_tests}
use Rattle.std.proofs.lemmas.List.{append_assoc, drop-drop, drop_all, drop_at, drop_more, get_or-append-add, get_or_append_left, length-append, length-drop, length-map, length-take, take_all, take_at, get_or-take, get_or-drop}
use Rattle.std.proofs.lemmas.List.FromFn.{get_or-map-range_with_len, length-map-range_with_len}
use Rattle.std.proofs.lemmas.Nat.{div-add-mod', mod-mul-add, mod_below}
use Rattle.std.proofs.Math.Nat.{mul-le-mul_right}
use Rattle.tif_packbits.specs.Packbits.{expansion, packing}
use Rattle.tif_packbits.proofs.Expansion.{expansion-nil}
use Rattle.tif_packbits.proofs.Packing.{expansion-packing}
use Rattle.tif_dir.specs.Directory.{field_of, number_at}
use Rattle.tif_dir.proofs.Fields.{number_at-present}
use Rattle.tif_strips.specs.declared.shape.Shape.{Shape}
use Rattle.tif_strips.specs.Strips.{fault_of_strip, image_row, needed_length, plane_data, plane_row_length as read_row_length, plane_row as read_row, planar_pixel, planes as read_planes, samples_in, stored_bytes, strip_count as read_count, strip_data, strip_fault, strip_offset, strip_rows, strip_size, strips_per_plane}
use Rattle.tif_strips.proofs.Faults.{first_fault-all, first_fault-passed}
use Rattle.tif_make.specs.declared.form.ImageForm.{ImageForm}
use Rattle.tif_make.specs.declared.form.Kind.{Kind}
use Rattle.tif_make.specs.declared.form.Kind.TheVariants.{Contone, Line, Mask}
use Rattle.tif_make.specs.declared.form.Planar.{Planar}
use Rattle.tif_make.specs.declared.form.Planar.TheVariants.{Chunky, Separate}
use Rattle.tif_make.specs.declared.form.Compression.{Compression}
use Rattle.tif_make.specs.declared.form.Compression.TheVariants.{Uncompressed, PackBits}
use Rattle.tif_make.specs.Form.{IsForm, compression_of, plane_row_bytes, plane_row_length, planes, planes_of, row_bytes, row_length, strip_count, strips_each}
use Rattle.tif_make.specs.Made.{HasRows}
use Rattle.tif_make.specs.Strips.{begins, ink_row, joined, plane_row, plane_row_of, plane_strips, row_at, sizes, stored_at, stored_row, strip, strips}
use Rattle.tif_make.proofs.Pieces.{length-begins, length-strips, rows-joined, rows_above, strips_fill}

-- ---- pieces after a front

-- a piece is recovered from its offset and its length
piece-back : (front : List ℕ) (pieces : List (List ℕ)) (i place : ℕ) → i < length pieces → place ≡ length front
    → take (get_or (sizes pieces) i 0) (drop (get_or (begins place pieces) i 0) (front ++ joined pieces)) ≡ get_or pieces i []
unfolding begins
piece-back front [] i place below at = absurd (omega arith)
piece-back front (piece ∷ pieces) zero place below at =
    ap (take (length piece)) (drop_at front (piece ++ joined pieces) place (sym at)) ∙ take_at piece (joined pieces) (length piece) refl
piece-back front (piece ∷ pieces) (suc i) place below at =
    ap (λ bytes. take (get_or (sizes pieces) i 0) (drop (get_or (begins (place + length piece) pieces) i 0) bytes)) (sym (append_assoc front piece (joined pieces)))
    ∙ piece-back (front ++ piece) pieces i (place + length piece) (omega arith) (omega (arith, length-append front piece))

-- and lies within the file
piece-within : (pieces : List (List ℕ)) (i place : ℕ) → i < length pieces
    → get_or (begins place pieces) i 0 + get_or (sizes pieces) i 0 ≤ place + length (joined pieces)
unfolding begins
piece-within [] i place below = absurd (omega arith)
piece-within (piece ∷ pieces) zero place below = omega (arith, length-append piece (joined pieces))
piece-within (piece ∷ pieces) (suc i) place below =
    omega (arith, piece-within pieces i (place + length piece) (omega arith), length-append piece (joined pieces))

-- item i of the list that is k lists after the first, where all have the same length
pub item-at : {X : Type 0} (f : ℕ → List X) (each from count k i : ℕ) (d : X) → ((n : ℕ) → length (f n) ≡ each) → k < count → i < each
    → get_or (flat_map f (range_with_len from count)) (k * each + i) d ≡ get_or (f (from + k)) i d
item-at f each from zero k i d same below within = absurd (omega arith)
item-at f each from (suc count) zero i d same below within =
    let start : zero * each + i ≡ i = omega arith in
    let here : from + zero ≡ from = omega arith in
    rw (start, here) (get_or_append_left (f from) (flat_map f (range_with_len (from + 1) count)) d i (omega (arith, same from)))
item-at f each from (suc count) (suc k) i d same below within =
    let start : suc k * each + i ≡ length (f from) + (k * each + i) = omega (arith, same from) in
    let here : from + suc k ≡ from + 1 + k = omega arith in
    rw (start, here)
    (get_or-append-add (f from) (flat_map f (range_with_len (from + 1) count)) (k * each + i) d
    ∙ item-at f each (from + 1) count k i d same (omega arith) within)

-- strip i of a plane among all strips
strip-at : (form : ImageForm) (rows : List ℕ) (plane i : ℕ) → plane < planes form → i < strips_each form
    → get_or (strips form rows) (plane * strips_each form + i) [] ≡ strip form rows plane i
unfolding strips plane_strips
strip-at form rows plane i below within =
    item-at (plane_strips form rows) (strips_each form) 0 (planes form) plane i []
    (λ n. length-map-range_with_len (strip form rows n) 0 (strips_each form)) below within
    ∙ get_or-map-range_with_len (strip form rows (0 + plane)) 0 (strips_each form) i i [] within (omega arith)
    ∙ ap (λ p. strip form rows p i) (omega arith)

-- ---- rows of a strip

unpack-all : (f : ℕ → List ℕ) (ys : List ℕ) → expansion (flat_map (λ y. packing (f y)) ys) ≡ flat_map f ys
unpack-all f [] = expansion-nil
unpack-all f (y ∷ ys) =
    expansion-packing (f y) (flat_map (λ k. packing (f k)) ys) ∙ ap (λ more. f y ++ more) (unpack-all f ys)

samples-by : (compression : Compression) (f : ℕ → List ℕ) (ys : List ℕ)
    → samples_in (compression_of compression == 32773) (flat_map (λ y. stored_row compression (f y)) ys) ≡ flat_map f ys
samples-by Uncompressed f ys = refl
samples-by PackBits f ys = unpack-all f ys

-- the samples of a strip are its rows
abbrev rows_in : ImageForm → List ℕ → ℕ → ℕ → List ℕ
rows_in form rows plane i =
    flat_map (plane_row form rows plane) (range_with_len (i * form.rows_per_strip) (min form.rows_per_strip (form.length - i * form.rows_per_strip)))

samples-strip : (form : ImageForm) (rows : List ℕ) (plane i : ℕ)
    → samples_in (compression_of form.compression == 32773) (strip form rows plane i) ≡ rows_in form rows plane i
unfolding strip stored_at
samples-strip form rows plane i =
    samples-by form.compression (plane_row form rows plane) (range_with_len (i * form.rows_per_strip) (min form.rows_per_strip (form.length - i * form.rows_per_strip)))

-- ---- lengths

row-length-by : (kind : Kind) (planar : Planar) (width plane : ℕ) (row : List ℕ) → length row ≡ row_bytes kind width
    → length (plane_row_of kind planar width plane row) ≡ plane_row_bytes kind planar width
unfolding ink_row
row-length-by Contone Separate width plane row e = length-map-range_with_len (λ x. slice_index row (4 * x + plane)) 0 width
row-length-by Contone Chunky width plane row e = e
row-length-by Line planar width plane row e = e
row-length-by Mask planar width plane row e = e

pub row_at-length : (form : ImageForm) (rows : List ℕ) (y : ℕ) → HasRows form rows → y < form.length → length (row_at (row_length form) rows y) ≡ row_length form
row_at-length form rows y has below =
    let size = row_length form in
    let next : (y + 1) * size ≤ form.length * size = mul-le-mul_right size (omega arith) in
    length-take size (drop (y * size) rows) ∙ omega (arith, length-drop (y * size) rows, has.are)

row-length : (form : ImageForm) (rows : List ℕ) (plane y : ℕ) → HasRows form rows → y < form.length → length (plane_row form rows plane y) ≡ plane_row_length form
row-length form rows plane y has below =
    row-length-by form.kind form.planar form.width plane (row_at (row_length form) rows y) (row_at-length form rows y has below)

rows-length : (f : ℕ → List ℕ) (each from count limit : ℕ) → from + count ≤ limit → ((y : ℕ) → y < limit → length (f y) ≡ each)
    → length (flat_map f (range_with_len from count)) ≡ count * each
rows-length f each from zero limit within same = omega arith
rows-length f each from (suc count) limit within same =
    length-append (f from) (flat_map f (range_with_len (from + 1) count))
    ∙ omega (arith, same from (omega arith), rows-length f each (from + 1) count limit (omega arith) same)

rows_in-length : (form : ImageForm) (rows : List ℕ) (plane i : ℕ) → IsForm form → HasRows form rows → i < strips_each form
    → length (rows_in form rows plane i) ≡ min form.rows_per_strip (form.length - i * form.rows_per_strip) * plane_row_length form
rows_in-length form rows plane i is has below =
    let above = rows_above form i below is in
    rows-length (plane_row form rows plane) (plane_row_length form) (i * form.rows_per_strip)
    (min form.rows_per_strip (form.length - i * form.rows_per_strip)) form.length (omega arith) (λ y h. row-length form rows plane y has h)

-- ---- a shape of the image

pub record IsShapeOf (form : ImageForm) (shape : Shape) : Type 0 where
  pub planes_are : read_planes shape ≡ planes form
  pub row_is : read_row_length shape ≡ plane_row_length form
  pub width_is : shape.width ≡ form.width
  pub length_is : shape.length ≡ form.length
  pub rows_are : shape.rows_per_strip ≡ form.rows_per_strip
  pub packed_is : shape.packed ≡ (compression_of form.compression == 32773)

-- what is known about the file
pub record HasStrips (form : ImageForm) (rows file : List ℕ) (shape : Shape) : Type 0 where
  pub form_is : IsForm form
  pub has : HasRows form rows
  pub same : IsShapeOf form shape
  pub front : List ℕ
  pub file_is : file ≡ front ++ joined (strips form rows)
  pub places : field_of file 273 ≡ Ok (Some (begins (length front) (strips form rows)))
  pub counts : field_of file 279 ≡ Ok (Some (sizes (strips form rows)))

each-is : (form : ImageForm) (shape : Shape) → IsShapeOf form shape → strips_per_plane shape ≡ strips_each form
unfolding strips_per_plane
each-is form shape same = rw (same.length_is, same.rows_are) refl

count-is : (form : ImageForm) (shape : Shape) → IsShapeOf form shape → read_count shape ≡ strip_count form
unfolding read_count
count-is form shape same = rw (same.planes_are, each-is form shape same) refl

offset-is : (form : ImageForm) (rows file : List ℕ) (shape : Shape) (h : HasStrips form rows file shape) (k : ℕ)
    → strip_offset shape file k ≡ get_or (begins (length h.front) (strips form rows)) k 0
unfolding strip_offset
offset-is form rows file shape h k =
    let least : read_count shape ≤ length (begins (length h.front) (strips form rows)) =
    omega (arith, count-is form shape h.same, length-begins (length h.front) (strips form rows), length-strips form rows) in
    ap (λ r. result_unwrap_or r 0) (number_at-present file 273 k (read_count shape) (begins (length h.front) (strips form rows)) h.places least)

size-is : (form : ImageForm) (rows file : List ℕ) (shape : Shape) (h : HasStrips form rows file shape) (k : ℕ)
    → strip_size shape file k ≡ get_or (sizes (strips form rows)) k 0
unfolding strip_size
size-is form rows file shape h k =
    let least : read_count shape ≤ length (sizes (strips form rows)) =
    omega (arith, count-is form shape h.same, length-map (strips form rows) length, length-strips form rows) in
    ap (λ r. result_unwrap_or r 0) (number_at-present file 279 k (read_count shape) (sizes (strips form rows)) h.counts least)

stored-is : (form : ImageForm) (rows file : List ℕ) (shape : Shape) (h : HasStrips form rows file shape) (k : ℕ) → k < strip_count form
    → stored_bytes shape file k ≡ get_or (strips form rows) k []
unfolding stored_bytes
stored-is form rows file shape h k below =
    rw (offset-is form rows file shape h k, size-is form rows file shape h k, h.file_is)
    (piece-back h.front (strips form rows) k (length h.front) (omega (arith, length-strips form rows)) refl)

-- the samples of strip i of a plane
samples-are : (form : ImageForm) (rows file : List ℕ) (shape : Shape) (h : HasStrips form rows file shape) (plane i : ℕ) → plane < planes form → i < strips_each form
    → samples_in shape.packed (stored_bytes shape file (plane * strips_each form + i)) ≡ rows_in form rows plane i
samples-are form rows file shape h plane i below within =
    let next : (plane + 1) * strips_each form ≤ planes form * strips_each form = mul-le-mul_right (strips_each form) (omega arith) in
    ap (λ packed. samples_in packed (stored_bytes shape file (plane * strips_each form + i))) h.same.packed_is
    ∙ ap (samples_in (compression_of form.compression == 32773))
    (stored-is form rows file shape h (plane * strips_each form + i) (omega arith) ∙ strip-at form rows plane i below within)
    ∙ samples-strip form rows plane i

-- the number of samples that it needs
needed-is : (form : ImageForm) (shape : Shape) (plane i : ℕ) → IsShapeOf form shape → i < strips_each form
    → needed_length shape (plane * strips_each form + i) ≡ min form.rows_per_strip (form.length - i * form.rows_per_strip) * plane_row_length form
unfolding needed_length strip_rows read_row_length
needed-is form shape plane i same within =
    let modulo : (plane * strips_each form + i) % strips_each form ≡ i = mod-mul-add plane (strips_each form) i within in
    rw (each-is form shape same, modulo, same.rows_are, same.length_is, same.row_is) refl

strip-passes : (form : ImageForm) (rows file : List ℕ) (shape : Shape) (h : HasStrips form rows file shape) (plane i : ℕ) → plane < planes form → i < strips_each form
    → fault_of_strip shape file (plane * strips_each form + i) ≡ None
unfolding fault_of_strip
strip-passes form rows file shape h plane i below within =
    let k = plane * strips_each form + i in
    let next : (plane + 1) * strips_each form ≤ planes form * strips_each form = mul-le-mul_right (strips_each form) (omega arith) in
    let inside : strip_offset shape file k + strip_size shape file k ≤ length file =
    omega (
      arith,
      offset-is form rows file shape h k,
      size-is form rows file shape h k,
      ap length h.file_is,
      length-append h.front (joined (strips form rows)),
      piece-within (strips form rows) k (length h.front) (omega (arith, length-strips form rows)),
    ) in
    let enough : needed_length shape k ≤ length (samples_in shape.packed (stored_bytes shape file k)) =
    omega (
      arith,
      ap length (samples-are form rows file shape h plane i below within),
      rows_in-length form rows plane i h.form_is h.has within,
      needed-is form shape plane i h.same within,
    ) in
    let a : nat_lt (length file) (strip_offset shape file k + strip_size shape file k) ≡ false = no inside in
    let b : nat_lt (length (samples_in shape.packed (stored_bytes shape file k))) (needed_length shape k) ≡ false = no enough in
    rw (a, b) refl
  where
    no : {a b : ℕ} → b ≤ a → nat_lt a b ≡ false
    no h = grind (arith, nat_tests)

-- all strips pass their tests
pub strips-pass : (form : ImageForm) (rows file : List ℕ) (shape : Shape) (h : HasStrips form rows file shape) → strip_fault shape file ≡ None
unfolding strip_fault
strips-pass form rows file shape h =
    let all = strips form rows in
    let each = strips_each form in
    let places : result_err (number_at file 273 0 (read_count shape)) ≡ None =
    ap result_err (number_at-present file 273 0 (read_count shape) (begins (length h.front) all) h.places
    (omega (arith, count-is form shape h.same, length-begins (length h.front) all, length-strips form rows))) in
    let counts : result_err (number_at file 279 0 (read_count shape)) ≡ None =
    ap result_err (number_at-present file 279 0 (read_count shape) (sizes all) h.counts
    (omega (arith, count-is form shape h.same, length-map all length, length-strips form rows))) in
    let tests = map (fault_of_strip shape file) (range_with_len 0 (read_count shape)) in
    first_fault-passed (result_err (number_at file 273 0 (read_count shape))) (result_err (number_at file 279 0 (read_count shape)) ∷ tests) places
    ∙ first_fault-passed (result_err (number_at file 279 0 (read_count shape))) tests counts
    ∙ first_fault-all (fault_of_strip shape file) 0 (read_count shape)
    (λ k below. let some : 0 < each = positive each (planes form) k (omega (arith, count-is form shape h.same)) in
    let plane : k / each < planes form = div-below k each (planes form) some (omega (arith, count-is form shape h.same)) in
    let split : k / each * each + k % each ≡ 0 + k = omega (arith, div-add-mod' k each) in
    subst (λ n. fault_of_strip shape file n ≡ None) split
    (strip-passes form rows file shape h (k / each) (k % each) plane (mod_below k each some)))
  where
    positive : (each planes k : ℕ) → k < planes * each → 0 < each
    positive zero planes k h = absurd (omega arith)
    positive (suc each) planes k h = omega arith

    div-below : (k each planes : ℕ) → 0 < each → k < planes * each → k / each < planes
    div-below k each planes some h = elim (cases_lt (k / each) planes) [
      | inl below ↦ below
      | inr past ↦ let scaled : planes * each ≤ k / each * each = mul-le-mul_right each past in
          let whole = div-add-mod' k each in
          absurd (omega arith)
    ]

-- ---- planes

flat_map-same : {X : Type 0} (f g : ℕ → List X) (from count : ℕ) → ((k : ℕ) → from ≤ k → k < from + count → f k ≡ g k)
    → flat_map f (range_with_len from count) ≡ flat_map g (range_with_len from count)
flat_map-same f g from zero same = refl
flat_map-same f g from (suc count) same =
    ap (λ xs. xs ++ flat_map f (range_with_len (from + 1) count)) (same from (omega arith) (omega arith))
    ∙ ap (λ xs. g from ++ xs) (flat_map-same f g (from + 1) count (λ k low high. same k (omega arith) (omega arith)))

data-is : (form : ImageForm) (rows file : List ℕ) (shape : Shape) (h : HasStrips form rows file shape) (plane i : ℕ) → plane < planes form → i < strips_each form
    → strip_data shape file (plane * strips_each form + i) ≡ rows_in form rows plane i
unfolding strip_data
data-is form rows file shape h plane i below within =
    ap (take (needed_length shape (plane * strips_each form + i))) (samples-are form rows file shape h plane i below within)
    ∙ take_all (needed_length shape (plane * strips_each form + i)) (rows_in form rows plane i)
    (omega (arith, rows_in-length form rows plane i h.form_is h.has within, needed-is form shape plane i h.same within))

plane-is : (form : ImageForm) (rows file : List ℕ) (shape : Shape) (h : HasStrips form rows file shape) (plane : ℕ) → plane < planes form
    → plane_data shape file plane ≡ flat_map (plane_row form rows plane) (range_with_len 0 form.length)
unfolding plane_data
plane-is form rows file shape h plane below =
    let each = strips_each form in
    let all : min (each * form.rows_per_strip) form.length ≡ form.length = omega (arith, strips_fill form h.form_is) in
    rw (each-is form shape h.same)
    (flat_map-same (λ i. strip_data shape file (plane * each + i)) (rows_in form rows plane) 0 each
    (λ i low high. data-is form rows file shape h plane i below (omega arith))
    ∙ rows-joined (plane_row form rows plane) form.rows_per_strip form.length each
    ∙ ap (λ n. flat_map (plane_row form rows plane) (range_with_len 0 n)) all)

-- row y among rows of the same length
pub row-cut : (f : ℕ → List ℕ) (size from count y limit : ℕ) → from + count ≤ limit → ((k : ℕ) → k < limit → length (f k) ≡ size) → y < count
    → take size (drop (y * size) (flat_map f (range_with_len from count))) ≡ f (from + y)
row-cut f size from zero y limit within same below = absurd (omega arith)
row-cut f size from (suc count) zero limit within same below =
    let start : zero * size ≡ 0 = omega arith in
    let here : from + zero ≡ from = omega arith in
    rw (start, here) (take_at (f from) (flat_map f (range_with_len (from + 1) count)) size (same from (omega arith)))
row-cut f size from (suc count) (suc y) limit within same below =
    let start : suc y * size ≡ size + y * size = omega arith in
    let here : from + suc y ≡ from + 1 + y = omega arith in
    let more = flat_map f (range_with_len (from + 1) count) in
    rw (start, here)
    (ap (take size) (sym (drop-drop (y * size) size (f from ++ more)) ∙ ap (drop (y * size)) (drop_at (f from) more size (same from (omega arith))))
    ∙ row-cut f size (from + 1) count y limit (omega arith) same (omega arith))

row-is : (form : ImageForm) (rows file : List ℕ) (shape : Shape) (h : HasStrips form rows file shape) (plane y : ℕ) → plane < planes form → y < form.length
    → read_row shape file plane y ≡ plane_row form rows plane y
unfolding read_row
row-is form rows file shape h plane y below within =
    rw (h.same.row_is, plane-is form rows file shape h plane below)
    (row-cut (plane_row form rows plane) (plane_row_length form) 0 form.length y form.length (omega arith) (λ k less. row-length form rows plane k h.has less) within
    ∙ ap (plane_row form rows plane) (omega arith))

-- ---- rows of the image

-- a whole row in one plane, or the samples of one ink in each of four
record IsOne (kind : Kind) (planar : Planar) (width : ℕ) : Type 0 where
  planes_are : planes_of kind planar ≡ 1
  row : (plane : ℕ) (row : List ℕ) → plane_row_of kind planar width plane row ≡ row

record IsFour (kind : Kind) (planar : Planar) (width : ℕ) : Type 0 where
  planes_are : planes_of kind planar ≡ 4
  row : (plane : ℕ) (row : List ℕ) → plane_row_of kind planar width plane row ≡ ink_row width plane row
  bytes : plane_row_bytes kind planar width ≡ width
  all : row_bytes kind width ≡ 4 * width

planes-cases : (kind : Kind) (planar : Planar) (width : ℕ) → IsOne kind planar width ⊎ IsFour kind planar width
planes-cases Contone Separate width = inr (record { planes_are = refl; row = λ plane row. refl; bytes = refl; all = refl })
planes-cases Contone Chunky width = inl (record { planes_are = refl; row = λ plane row. refl })
planes-cases Line planar width = inl (record { planes_are = refl; row = λ plane row. refl })
planes-cases Mask planar width = inl (record { planes_are = refl; row = λ plane row. refl })

-- a row by its pixels of four samples
fours : (row : List ℕ) (from count : ℕ) → length row ≡ 4 * (from + count)
    → flat_map (λ x. map (λ ink. slice_index row (4 * x + ink)) (0 ∷ 1 ∷ 2 ∷ 3 ∷ [])) (range_with_len from count) ≡ drop (4 * from) row
fours row from zero len = sym (drop_all (4 * from) row (omega arith))
fours row from (suc count) len =
    let at = 4 * from in
    let a = drop_more row at 0 (omega arith) in
    let b = drop_more row (at + 1) 0 (omega arith) in
    let c = drop_more row (at + 1 + 1) 0 (omega arith) in
    let d = drop_more row (at + 1 + 1 + 1) 0 (omega arith) in
    let rest = fours row (from + 1) count (omega arith) in
    let there : at + 1 + 1 + 1 + 1 ≡ 4 * (from + 1) = omega arith in
    let e0 : at + 0 ≡ at = omega arith in
    let e2 : at + 2 ≡ at + 1 + 1 = omega arith in
    let e3 : at + 3 ≡ at + 1 + 1 + 1 = omega arith in
    sym
    (a ∙ ap (λ xs. slice_index row at ∷ xs)
    (b ∙ ap (λ xs. slice_index row (at + 1) ∷ xs)
    (c ∙ ap (λ xs. slice_index row (at + 1 + 1) ∷ xs) (d ∙ ap (λ xs. slice_index row (at + 1 + 1 + 1) ∷ xs) (ap (λ n. drop n row) there ∙ sym rest))))
    ∙ ap (λ n. slice_index row n ∷ slice_index row (at + 1) ∷ slice_index row (at + 1 + 1) ∷ slice_index row (at + 1 + 1 + 1) ∷ more) (sym e0)
    ∙ ap (λ n. slice_index row (at + 0) ∷ slice_index row (at + 1) ∷ slice_index row n ∷ slice_index row (at + 1 + 1 + 1) ∷ more) (sym e2)
    ∙ ap (λ n. slice_index row (at + 0) ∷ slice_index row (at + 1) ∷ slice_index row (at + 2) ∷ slice_index row n ∷ more) (sym e3))
  where
    more : List ℕ
    more = flat_map (λ x. map (λ ink. slice_index row (4 * x + ink)) (0 ∷ 1 ∷ 2 ∷ 3 ∷ [])) (range_with_len (from + 1) count)

-- sample x of an ink's row
ink-at : (width ink : ℕ) (row : List ℕ) (x : ℕ) → x < width → slice_index (ink_row width ink row) x ≡ slice_index row (4 * x + ink)
unfolding ink_row
ink-at width ink row x within = get_or-map-range_with_len (λ k. slice_index row (4 * k + ink)) 0 width x x 0 within (omega arith)

-- row y of a plane, cut out of its bytes
row-cut-is : (form : ImageForm) (rows file : List ℕ) (shape : Shape) (h : HasStrips form rows file shape) (plane y : ℕ) → plane < planes form → y < form.length
    → take (read_row_length shape) (drop (y * read_row_length shape) (plane_data shape file plane)) ≡ plane_row form rows plane y
unfolding read_row
row-cut-is form rows file shape h plane y below within = row-is form rows file shape h plane y below within

four-same : {a b c d e f g k : ℕ} → a ≡ e → b ≡ f → c ≡ g → d ≡ k → (a ∷ b ∷ c ∷ d ∷ []) ≡ (e ∷ f ∷ g ∷ k ∷ [])
four-same p q r s = cc

sample-is : (form : ImageForm) (rows file : List ℕ) (shape : Shape) (h : HasStrips form rows file shape) (y x ink : ℕ) → IsFour form.kind form.planar form.width
    → y < form.length → x < form.width → ink < 4
    → slice_index (plane_data shape file ink) (y * form.width + x) ≡ slice_index (row_at (row_length form) rows y) (4 * x + ink)
sample-is form rows file shape h y x ink four below within known =
    let row = row_at (row_length form) rows y in
    let width = form.width in
    let whole : take width (drop (y * width) (plane_data shape file ink)) ≡ ink_row width ink row =
    ap (λ n. take n (drop (y * n) (plane_data shape file ink))) (sym (h.same.row_is ∙ four.bytes))
    ∙ row-cut-is form rows file shape h ink y (omega (arith, four.planes_are)) below ∙ four.row ink row in
    sym (get_or-drop (y * width) (plane_data shape file ink) x 0)
    ∙ sym (get_or-take width (drop (y * width) (plane_data shape file ink)) x 0 within)
    ∙ ap (λ xs. slice_index xs x) whole ∙ ink-at width ink row x within

-- the rows of the image are the given ones
pub image-row-is : (form : ImageForm) (rows file : List ℕ) (shape : Shape) (h : HasStrips form rows file shape) (y : ℕ) → y < form.length
    → image_row shape file y ≡ row_at (row_length form) rows y
unfolding image_row planar_pixel
image-row-is form rows file shape h y below = elim (planes-cases form.kind form.planar form.width) [
  | inl one ↦
      let number : read_planes shape ≡ 1 = h.same.planes_are ∙ one.planes_are in
      rw number (row-is form rows file shape h 0 y (omega (arith, one.planes_are)) below ∙ one.row 0 (row_at (row_length form) rows y))
  | inr four ↦
      let number : read_planes shape ≡ 4 = h.same.planes_are ∙ four.planes_are in
      let row = row_at (row_length form) rows y in
      rw number
      (ap (λ w. flat_map (λ x. map (λ ink. slice_index (plane_data shape file ink) (y * w + x)) (0 ∷ 1 ∷ 2 ∷ 3 ∷ [])) (range_with_len 0 w)) h.same.width_is
      ∙ flat_map-same (λ x. map (λ ink. slice_index (plane_data shape file ink) (y * form.width + x)) (0 ∷ 1 ∷ 2 ∷ 3 ∷ []))
      (λ x. map (λ ink. slice_index row (4 * x + ink)) (0 ∷ 1 ∷ 2 ∷ 3 ∷ [])) 0 form.width
      (λ x low high. four-same
      (sample-is form rows file shape h y x 0 four below (omega arith) (omega arith))
      (sample-is form rows file shape h y x 1 four below (omega arith) (omega arith))
      (sample-is form rows file shape h y x 2 four below (omega arith) (omega arith))
      (sample-is form rows file shape h y x 3 four below (omega arith) (omega arith)))
      ∙ fours row 0 form.width (row_at-length form rows y h.has below ∙ four.all ∙ omega arith))
]
