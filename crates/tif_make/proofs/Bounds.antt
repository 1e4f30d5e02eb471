-- The strips of an image have at most twice as many bytes as its rows.
use Rattle.std.proofs.Common.{◌≡◌, ℕ, zero, suc, ◌+◌, ◌*◌, ◌<◌, ◌≤◌, List, [], ◌∷◌, ◌++◌, length, map, take, get_or, refl, ap, subst, ◌∙◌, arith}
use Rattle.std.specs.List.{flat_map, range_with_len}
use Rattle.std.proofs.lemmas.List.{append-nil, length-append, length-take}
use Rattle.std.proofs.lemmas.List.FromFn.{get_or-range_with_len, length-map-range_with_len, length-range_with_len}
use Rattle.std.proofs.lemmas.List.Concat.{flat_map-append}
use Rattle.std.proofs.lemmas.List.Folds.{length-flat_map-take}
use Rattle.std.proofs.Math.Nat.{mul-le-mul_right}
use Rattle.tif_packbits.proofs.Packing.{packing_bounded}
use Rattle.tif_make.specs.declared.form.ImageForm.{ImageForm}
use Rattle.tif_make.specs.declared.form.Kind.{Kind}
use Rattle.tif_make.specs.declared.form.Kind.TheVariants.{Contone, Line, Mask}
use Rattle.tif_make.specs.declared.form.Planar.{Planar}
use Rattle.tif_make.specs.declared.form.Planar.TheVariants.{Chunky, Separate}
use Rattle.tif_make.specs.declared.form.Compression.{Compression}
use Rattle.tif_make.specs.declared.form.Compression.TheVariants.{Uncompressed, PackBits}
use Rattle.tif_make.specs.Form.{IsForm, plane_row_bytes, plane_row_length, planes, planes_of, row_bytes, row_length, strips_each}
use Rattle.tif_make.specs.Made.{HasRows}
use Rattle.tif_make.specs.Strips.{ink_row, joined, plane_row_of, plane_strips, row_at, stored_at, stored_row, strip, strips}
use Rattle.tif_make.proofs.Pieces.{joined-append, joined-flat_map, joined-map, plane-joined, range-append}

-- the first numbers of a range
take-range : (i n from : ℕ) → i ≤ n → take i (range_with_len from n) ≡ range_with_len from i
take-range zero n from h = refl
take-range (suc i) zero from h = absurd (omega arith)
take-range (suc i) (suc n) from h = ap (λ xs. from ∷ xs) (take-range i n (from + 1) (omega arith))

-- `count` pieces of at most `most` bytes each
pub flat_map-within : (f : ℕ → List ℕ) (most from count : ℕ) → ((k : ℕ) → length (f k) ≤ most) → length (flat_map f (range_with_len from count)) ≤ count * most
flat_map-within f most from zero each = omega arith
flat_map-within f most from (suc count) each =
    omega (arith, length-append (f from) (flat_map f (range_with_len (from + 1) count)), each from, flat_map-within f most (from + 1) count each)

-- a row in one plane is no longer than the row length of the plane
plane_row-within : (kind : Kind) (planar : Planar) (width plane : ℕ) (rows : List ℕ) (y : ℕ)
    → length (plane_row_of kind planar width plane (row_at (row_bytes kind width) rows y)) ≤ plane_row_bytes kind planar width
unfolding ink_row
plane_row-within Contone Separate width plane rows y = omega (arith, length-map-range_with_len {X = ℕ})
plane_row-within Contone Chunky width plane rows y = omega (arith, length-take {A = ℕ})
plane_row-within Line planar width plane rows y = omega (arith, length-take {A = ℕ})
plane_row-within Mask planar width plane rows y = omega (arith, length-take {A = ℕ})

-- a stored row is at most twice as long as the row
stored-within : (compression : Compression) (row : List ℕ) (n : ℕ) → length row ≤ n → length (stored_row compression row) ≤ 2 * n
stored-within Uncompressed row n within = omega arith
stored-within PackBits row n within = omega (arith, packing_bounded row)

stored_at-within : (form : ImageForm) (rows : List ℕ) (plane y : ℕ) → length (stored_at form rows plane y) ≤ 2 * plane_row_length form
unfolding stored_at
stored_at-within form rows plane y =
    stored-within form.compression _ (plane_row_length form) (plane_row-within form.kind form.planar form.width plane rows y)

-- the strips of a plane
plane-within : (form : ImageForm) (rows : List ℕ) (plane : ℕ) → IsForm form
    → length (joined (plane_strips form rows plane)) ≤ form.length * (2 * plane_row_length form)
plane-within form rows plane is =
    rw (plane-joined form rows plane is)
    (flat_map-within (stored_at form rows plane) (2 * plane_row_length form) 0 form.length (stored_at-within form rows plane))

-- the row lengths of all planes add up to the length of a row of pixels
planes-row : (kind : Kind) (planar : Planar) (width : ℕ) → planes_of kind planar * plane_row_bytes kind planar width ≡ row_bytes kind width
planes-row Contone Separate width = refl
planes-row Contone Chunky width = omega arith
planes-row Line planar width = omega arith
planes-row Mask planar width = omega arith

-- the strips of the first planes
planes-twice : (form : ImageForm) (rows : List ℕ) (count : ℕ) → IsForm form → HasRows form rows → count ≤ planes form
    → length (joined (flat_map (plane_strips form rows) (range_with_len 0 count))) ≤ 2 * length rows
planes-twice form rows count is has few =
    let each = form.length * (2 * plane_row_length form) in
    let step : length (flat_map (λ plane. joined (plane_strips form rows plane)) (range_with_len 0 count)) ≤ count * each =
    flat_map-within (λ plane. joined (plane_strips form rows plane)) each 0 count (λ plane. plane-within form rows plane is) in
    let scaled : count * each ≤ planes form * each = mul-le-mul_right each few in
    let whole : planes form * each ≡ 2 * (form.length * row_length form) =
    omega (arith, ap (λ n. form.length * (2 * n)) (planes-row form.kind form.planar form.width)) in
    rw (joined-flat_map (plane_strips form rows) (range_with_len 0 count)) (omega (arith, has.are))

pub planes-within : (form : ImageForm) (rows : List ℕ) (count : ℕ) → IsForm form → HasRows form rows → count ≤ planes form
    → length (joined (flat_map (plane_strips form rows) (range_with_len 0 count))) ≤ 4000000000
planes-within form rows count is has few = omega (arith, planes-twice form rows count is has few, has.few)

-- all strips
pub strips-twice : (form : ImageForm) (rows : List ℕ) → IsForm form → HasRows form rows → length (joined (strips form rows)) ≤ 2 * length rows
unfolding strips
strips-twice form rows is has = planes-twice form rows (planes form) is has (omega arith)

-- room for the strips of one more plane
pub plane-room : (form : ImageForm) (rows : List ℕ) (plane stored : ℕ) → IsForm form → HasRows form rows → plane < planes form
    → stored ≡ length (joined (flat_map (plane_strips form rows) (range_with_len 0 plane)))
    → stored + length (joined (plane_strips form rows plane)) ≤ 4000000000
plane-room form rows plane stored is has below e =
    let xs = flat_map (plane_strips form rows) (range_with_len 0 plane) in
    let more : flat_map (plane_strips form rows) (range_with_len 0 (plane + 1)) ≡ xs ++ plane_strips form rows plane =
    ap (flat_map (plane_strips form rows)) (range-append 0 plane 1 plane (omega arith))
    ∙ flat_map-append (plane_strips form rows) (range_with_len 0 plane) (plane ∷ [])
    ∙ ap (λ ys. xs ++ ys) (append-nil (plane_strips form rows plane)) in
    omega (
      arith,
      planes-within form rows (plane + 1) is has (omega arith),
      ap (λ ys. length (joined ys)) more,
      ap length (joined-append xs (plane_strips form rows plane)),
      length-append (joined xs) (joined (plane_strips form rows plane)),
    )

-- room for one more strip of a plane
pub strip-room : (form : ImageForm) (rows : List ℕ) (plane i start stored : ℕ) → i < strips_each form
    → stored ≡ start + length (joined (map (strip form rows plane) (range_with_len 0 i)))
    → start + length (joined (plane_strips form rows plane)) ≤ 4000000000
    → stored + length (strip form rows plane i) ≤ 4000000000
unfolding plane_strips
strip-room form rows plane i start stored below e room =
    let f = strip form rows plane in
    let all = range_with_len 0 (strips_each form) in
    let is_count : length all ≡ strips_each form = length-range_with_len 0 (strips_each form) in
    let part = length-flat_map-take f all i 0 (omega arith) in
    let at : get_or all i 0 ≡ i = get_or-range_with_len 0 (strips_each form) i 0 below ∙ omega arith in
    let front : take i all ≡ range_with_len 0 i = take-range i (strips_each form) 0 (omega arith) in
    omega (
      arith,
      ap length (joined-map f all),
      ap length (joined-map f (range_with_len 0 i)),
      (let h : length (flat_map f (range_with_len 0 i)) + length (f i) ≤ length (flat_map f all) = subst (λ k. length (flat_map f (range_with_len 0 i)) + length (f k) ≤ length (flat_map f all)) at (subst (λ ks. length (flat_map f ks) + length (f (get_or all i 0)) ≤ length (flat_map f all)) front part) in h),
    )
