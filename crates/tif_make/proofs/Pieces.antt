-- The strips of an image, by count and by content.
use Rattle.std.proofs.Common.{◌≡◌, ℕ, zero, suc, ◌+◌, ◌-◌, ◌*◌, ◌/◌, ◌<◌, ◌≤◌, min, List, [], ◌∷◌, ◌++◌, length, map, refl, sym, ap, ◌∙◌, ◌⊎◌, inl, inr, arith, add-zero, add-one, add_assoc}
use Rattle.std.specs.Int.{div_ceil}
use Rattle.std.specs.List.{flat_map, range_with_len}
use Rattle.std.proofs.lemmas.Grind.{div_ceil_times}
use Rattle.std.proofs.lemmas.List.{append-nil, length-append}
use Rattle.std.proofs.lemmas.List.Concat.{flat_map-append}
use Rattle.std.proofs.lemmas.List.FromFn.{length-map-range_with_len}
use Rattle.std.proofs.lemmas.Bool.{cases_lt}
use Rattle.std.proofs.lemmas.Nat.{div-add-mod'}
use Rattle.std.proofs.Math.Nat.{div-eq_of_lt-le, mul-le-mul_left, mul-le-mul_right}
use Rattle.tif_make.specs.declared.form.ImageForm.{ImageForm}
use Rattle.tif_make.specs.Form.{IsForm, planes, strip_count, strips_each}
use Rattle.tif_make.specs.Strips.{begins, joined, plane_strips, stored_at, strip, strips}

-- ---- arithmetic

-- x / y, rounded up
pub rounded_up : (x y : ℕ) → 0 < y → div_ceil x y ≡ (x + y - 1) / y
rounded_up x y some = let h = div_ceil_times x y some in sym (div-eq_of_lt-le y (omega arith) (omega arith))

-- the rows above strip i of a plane are fewer than the rows of the image
pub rows_above : (form : ImageForm) (i : ℕ) → i < strips_each form → IsForm form → i * form.rows_per_strip < form.length
rows_above form i below is =
    let all = form.length + form.rows_per_strip - 1 in
    let next : i + 1 ≤ all / form.rows_per_strip = omega arith in
    let scaled : (i + 1) * form.rows_per_strip ≤ all / form.rows_per_strip * form.rows_per_strip = mul-le-mul_right form.rows_per_strip next in
    let whole = div-add-mod' all form.rows_per_strip in
    let some = is.length in
    omega arith

-- the strips of a plane hold at least all rows
pub strips_fill : (form : ImageForm) → IsForm form → form.length ≤ strips_each form * form.rows_per_strip
strips_fill form is =
    let h = div_ceil_times form.length form.rows_per_strip is.rows_per_strip in
    let e = rounded_up form.length form.rows_per_strip is.rows_per_strip in
    rw (← e) (omega arith)

-- each strip has at least one row
pub strips_each-within : (form : ImageForm) → IsForm form → strips_each form ≤ form.length
strips_each-within form is =
    let h = div_ceil_times form.length form.rows_per_strip is.rows_per_strip in
    let e = rounded_up form.length form.rows_per_strip is.rows_per_strip in
    let k = strips_each form in
    let some = is.rows_per_strip in
    let own : form.length * 1 ≤ form.length * form.rows_per_strip = mul-le-mul_left form.length some in
    elim (cases_lt form.length k) [
      | inl past ↦ let scaled : (form.length + 1) * form.rows_per_strip ≤ k * form.rows_per_strip = mul-le-mul_right form.rows_per_strip (omega arith) in
          let whole : k * form.rows_per_strip < form.length + form.rows_per_strip = rw e at h.1 in
          absurd (omega arith)
      | inr within ↦ within
    ]

-- ---- ranges

-- a range split in two
pub range-append : (a m n b : ℕ) → a + m ≡ b → range_with_len a (m + n) ≡ range_with_len a m ++ range_with_len b n
range-append a zero n b e = let same : a ≡ b = omega arith in rw same (ap (range_with_len b) (omega arith))
range-append a (suc m) n b e =
    let shape : suc m + n ≡ suc (m + n) = omega arith in
    rw shape (ap (λ xs. a ∷ xs) (range-append (a + 1) m n b (omega arith)))

-- ---- pieces

-- the offsets of pieces that follow others
pub begins-append : (place : ℕ) (xs ys : List (List ℕ)) → begins place (xs ++ ys) ≡ begins place xs ++ begins (place + length (joined xs)) ys
unfolding begins
begins-append place [] ys = ap (λ n. begins n ys) (sym (add-zero place))
begins-append place (x ∷ xs) ys =
    ap (λ places. place ∷ places)
    (begins-append (place + length x) xs ys
    ∙ ap (λ n. begins (place + length x) xs ++ begins n ys) (add_assoc place (length x) (length (joined xs)) ∙ ap (λ n. place + n) (sym (length-append x (joined xs)))))

-- pieces appended to others
pub joined-append : (xs ys : List (List ℕ)) → joined (xs ++ ys) ≡ joined xs ++ joined ys
joined-append xs ys = flat_map-append (λ piece. piece) xs ys

-- concatenated lists of pieces
pub joined-flat_map : {X : Type 0} (f : X → List (List ℕ)) (xs : List X) → joined (flat_map f xs) ≡ flat_map (λ x. joined (f x)) xs
joined-flat_map f [] = refl
joined-flat_map f (x ∷ xs) = joined-append (f x) (flat_map f xs) ∙ ap (λ ys. joined (f x) ++ ys) (joined-flat_map f xs)

-- pieces given by a function
pub joined-map : {X : Type 0} (f : X → List ℕ) (xs : List X) → joined (map f xs) ≡ flat_map f xs
joined-map f [] = refl
joined-map f (x ∷ xs) = ap (λ ys. f x ++ ys) (joined-map f xs)

-- ---- rows in strips

-- the rows before index `place`, then the next `each` rows, as far as there are rows
rows-two : (f : ℕ → List ℕ) (rows each place : ℕ) → (place < rows) ⊎ (rows ≤ place)
    → flat_map f (range_with_len 0 (min place rows)) ++ flat_map f (range_with_len place (min each (rows - place)))
    ≡ flat_map f (range_with_len 0 (min place rows + min each (rows - place)))
rows-two f rows each place (inl below) =
    sym (flat_map-append f (range_with_len 0 (min place rows)) (range_with_len place (min each (rows - place))))
    ∙ ap (flat_map f) (sym (range-append 0 (min place rows) (min each (rows - place)) place (omega arith)))
rows-two f rows each place (inr past) =
    let none : min each (rows - place) ≡ 0 = omega arith in
    rw none (append-nil _ ∙ ap (λ n. flat_map f (range_with_len 0 n)) (omega arith))

-- the first k strips of `each` rows hold the first rows
pub rows-joined : (f : ℕ → List ℕ) (each rows k : ℕ)
    → flat_map (λ i. flat_map f (range_with_len (i * each) (min each (rows - i * each)))) (range_with_len 0 k)
    ≡ flat_map f (range_with_len 0 (min (k * each) rows))
rows-joined f each rows zero = let none : min (0 * each) rows ≡ 0 = omega arith in rw none refl
rows-joined f each rows (suc k) =
    let g : ℕ → List ℕ = λ i. flat_map f (range_with_len (i * each) (min each (rows - i * each))) in
    let split : range_with_len 0 (suc k) ≡ range_with_len 0 k ++ k ∷ [] = ap (range_with_len 0) (sym (add-one k)) ∙ range-append 0 k 1 k (omega arith) in
    let step : suc k * each ≡ k * each + each = omega arith in
    let end : min (k * each) rows + min each (rows - k * each) ≡ min (suc k * each) rows = rw step (omega arith) in
    ap (flat_map g) split ∙ flat_map-append g (range_with_len 0 k) (k ∷ [])
    ∙ ap (λ xs. xs ++ (g k ++ [])) (rows-joined f each rows k)
    ∙ ap (λ xs. flat_map f (range_with_len 0 (min (k * each) rows)) ++ xs) (append-nil (g k))
    ∙ rows-two f rows each (k * each) (cases_lt (k * each) rows)
    ∙ ap (λ n. flat_map f (range_with_len 0 n)) end

-- the strips of a plane are its rows
pub plane-joined : (form : ImageForm) (rows : List ℕ) (plane : ℕ) → IsForm form
    → joined (plane_strips form rows plane) ≡ flat_map (stored_at form rows plane) (range_with_len 0 form.length)
unfolding plane_strips strip
plane-joined form rows plane is =
    let all : min (strips_each form * form.rows_per_strip) form.length ≡ form.length = omega (arith, strips_fill form is) in
    joined-map (strip form rows plane) (range_with_len 0 (strips_each form))
    ∙ rows-joined (stored_at form rows plane) form.rows_per_strip form.length (strips_each form)
    ∙ ap (λ n. flat_map (stored_at form rows plane) (range_with_len 0 n)) all

-- ---- counts

pub length-begins : (place : ℕ) (pieces : List (List ℕ)) → length (begins place pieces) ≡ length pieces
unfolding begins
length-begins place [] = refl
length-begins place (piece ∷ pieces) = ap (λ n. suc n) (length-begins (place + length piece) pieces)

-- `count` lists of `each` pieces
length-pieces : (f : ℕ → List (List ℕ)) (each from count : ℕ) → ((k : ℕ) → length (f k) ≡ each) → length (flat_map f (range_with_len from count)) ≡ count * each
length-pieces f each from zero h = omega arith
length-pieces f each from (suc count) h =
    length-append (f from) (flat_map f (range_with_len (from + 1) count)) ∙ omega (arith, h from, length-pieces f each (from + 1) count h)

pub length-strips : (form : ImageForm) (rows : List ℕ) → length (strips form rows) ≡ strip_count form
unfolding strips plane_strips
length-strips form rows =
    length-pieces (plane_strips form rows) (strips_each form) 0 (planes form) (λ plane. length-map-range_with_len (strip form rows plane) 0 (strips_each form))
