-- A row of the concatenated strips, read from the strip that contains it.
use Rattle.std.proofs.Common.{◌≡◌, ℕ, zero, suc, ◌+◌, ◌*◌, ◌/◌, ◌%◌, ◌<◌, ◌≤◌, List, ◌++◌, length, take, drop, None, sym, ap, ◌∙◌, arith, length-drop, zero-add}
use Rattle.std.specs.List.{flat_map, range_with_len}
use Rattle.std.proofs.lemmas.List.{drop_at, drop-append-le, drop-drop, drop-take, length-take-le, take-append-le, take-take}
use Rattle.std.proofs.lemmas.Nat.{div-add-mod'}
use Rattle.tif_strips.specs.declared.shape.Shape.{Shape}
use Rattle.tif_strips.specs.Strips.{IsStriped, needed_length, plane_data, plane_row, plane_row_length, planes, samples_in, stored_bytes, strip_data, strip_fault, strips_per_plane}
use Rattle.tif_strips.proofs.Shapes.{needed_length-in_plane, row_in_needed, strip_number, strip_of_row, strip_rows-above}
use Rattle.tif_strips.proofs.Faults.{fault_of_strip-passed, strip_enough-passed}

-- In concatenated pieces of which those before piece i all have the same size, bytes at an offset in piece
-- i are at that offset plus i times the size in the whole.
pub take-joined : (piece : ℕ → List ℕ) (size start n i at b : ℕ) → i < n
    → ((j : ℕ) → j < i → length (piece (start + j)) ≡ size) → at + b ≤ length (piece (start + i))
    → take b (drop (i * size + at) (flat_map piece (range_with_len start n)))
    ≡ take b (drop at (piece (start + i)))
take-joined piece size start zero i at b below same fits = absurd (omega arith)
take-joined piece size start (suc n) zero at b below same fits =
    let rest = flat_map piece (range_with_len (start + 1) n) in
    let here : start + 0 ≡ start = omega arith in
    let place : 0 * size + at ≡ at = omega arith in
    let inside = rw here at fits in
    rw (here, place, drop-append-le at (piece start) rest (omega arith))
    (take-append-le b (drop at (piece start)) rest (omega (arith, length-drop at (piece start))))
take-joined piece size start (suc n) (suc i) at b below same fits =
    let rest = flat_map piece (range_with_len (start + 1) n) in
    let here : start + 0 ≡ start = omega arith in
    let there : start + suc i ≡ start + 1 + i = omega arith in
    let first = rw here at (same 0 (omega arith)) in
    let place : suc i * size + at ≡ size + (i * size + at) = omega arith in
    let behind : drop (size + (i * size + at)) (piece start ++ rest) ≡ drop (i * size + at) rest =
    sym (drop-drop (i * size + at) size (piece start ++ rest)) ∙ ap (drop (i * size + at)) (drop_at (piece start) rest size first) in
    let next = take-joined piece size (start + 1) n i at b (omega arith)
    (λ j under. let later : start + suc j ≡ start + 1 + j = omega arith in rw later at (same (suc j) (omega arith)))
    (rw there at fits) in
    rw (there, place, behind) next

-- a slice of a prefix is a slice of the whole
pub take-drop-take : (b at n : ℕ) (xs : List ℕ) → at + b ≤ n
    → take b (drop at (take n xs)) ≡ take b (drop at xs)
take-drop-take b at n xs fits =
    let front : take (at + b) (take n xs) ≡ take (at + b) xs = take-take (at + b) n xs fits in
    sym (drop-take at b (take n xs)) ∙ ap (drop at) front ∙ drop-take at b xs

-- a strip that passes has all the data that it needs
pub length-strip_data : (shape : Shape) (bytes : List ℕ) (strip : ℕ)
    → needed_length shape strip ≤ length (samples_in shape.packed (stored_bytes shape bytes strip))
    → length (strip_data shape bytes strip) ≡ needed_length shape strip
unfolding strip_data
length-strip_data shape bytes strip enough = length-take-le (needed_length shape strip) _ enough

-- row y of a plane is in its strip
pub plane_row-in_strip : (shape : Shape) (bytes : List ℕ) (plane y : ℕ) → IsStriped shape
    → strip_fault shape bytes ≡ None → plane < planes shape → y < shape.length
    → take (plane_row_length shape) (drop (y % shape.rows_per_strip * plane_row_length shape)
    (samples_in shape.packed (stored_bytes shape bytes
    (plane * strips_per_plane shape + y / shape.rows_per_strip)))) ≡ plane_row shape bytes plane y
unfolding plane_row plane_data strip_data
plane_row-in_strip shape bytes plane y striped passed known below =
    let b = plane_row_length shape in
    let rows = shape.rows_per_strip in
    let n = strips_per_plane shape in
    let enough : (i : ℕ) → i < n → needed_length shape (plane * n + i) ≤ length (samples_in shape.packed (stored_bytes shape bytes (plane * n + i))) =
    λ i under. strip_enough-passed shape bytes (plane * n + i) (fault_of_strip-passed shape bytes (plane * n + i) passed (strip_number shape plane i known under)) in
    let inside = strip_of_row shape y striped below in
    let fits = row_in_needed shape plane y striped below in
    let long = length-strip_data shape bytes (plane * n + y / rows) (enough (y / rows) inside) in
    let full : (j : ℕ) → j < y / rows → length (strip_data shape bytes (plane * n + (0 + j))) ≡ rows * b =
    λ j above. rw (zero-add j) (length-strip_data shape bytes (plane * n + j) (enough j (omega arith)) ∙ needed_length-in_plane shape plane j (omega arith) ∙ ap (λ k. k * b) (strip_rows-above shape y j below above)) in
    let joined = take-joined (λ i. strip_data shape bytes (plane * n + i)) (rows * b) 0 n (y / rows) (y % rows * b) b inside full (rw (zero-add (y / rows)) (omega (arith, long, fits))) in
    let whole = div-add-mod' y rows in
    let place : y / rows * (rows * b) + y % rows * b ≡ y * b = rows_times (y / rows) (y % rows) rows b y whole in
    sym (take-drop-take b (y % rows * b) (needed_length shape (plane * n + y / rows)) _ fits)
    ∙ sym (rw (place, zero-add (y / rows)) at joined)
  where
    rows_times : (q r k b y : ℕ) → q * k + r ≡ y → q * (k * b) + r * b ≡ y * b
    rows_times q r k b y whole = rw (← whole) (omega arith)
