-- How the byte counts of a plate's strips grow row by row.
use Rattle.std.proofs.Common.{◌≡◌, ◌≢◌, ℕ, suc, ◌+◌, ◌*◌, ◌/◌, ◌<◌, ◌≤◌, ⊎_elim, List, [], ◌∷◌, ◌++◌, length, map, sum, take, drop, get_or, set, replicate, refl, sym, ap, subst, ◌∙◌, arith}
use Rattle.std.specs.List.{All, flat_map, range_with_len}
use Rattle.std.proofs.Math.Nat.{add-mul, one-mul, div-mul-le_self, lt-div-mul-add, mul-le-mul_right, mul-le-mul_left}
use Rattle.std.proofs.lemmas.Bool.{cases_eq, cases_lt}
use Rattle.std.proofs.lemmas.List.{append-nil, length-append, length-drop, length-replicate, length-set, take_all, drop_all, take-append-le, drop-append-le, get_or-replicate, get_or-set_same, get_or-set_other}
use Rattle.std.proofs.lemmas.List.FromFn.{get_or-map-range_with_len, length-map-range_with_len}
use Rattle.std.proofs.lemmas.List.Elements.{All-append, All-cons, All-nil}
use Rattle.std.proofs.lemmas.List.Sums.{get_or-le-sum_by}
use Rattle.std.proofs.lemmas.Grind.{flat_map-append, same_number_lists}
use Rattle.pr_base.specs.Row.{row_size}
use Rattle.tif_packbits.specs.Packbits.{packing, packed_bound}
use Rattle.tif_packbits.proofs.Packing.{packing_bounded}
use Rattle.tif_plate.specs.Plate.{IsSide, rows_each, strip_count, rows_in, size_of, strip_counts}
use Rattle.tif_plate.specs.Tail.{IsPlaceable, counts_so_far}
use Rattle.tif_plate.proofs.Cuts.{rows-in_strips, sum-sizes}

-- a row after strip i, which leaves the strip unchanged
behind : (n i r : ℕ) (rows : List (List ℕ)) (row : List ℕ) → length rows ≡ n → 0 < r → i < n / r → take r (drop (i * r) (rows ++ row ∷ [])) ≡ take r (drop (i * r) rows)
behind n i r rows row len some before =
    let next : (i + 1) * r ≡ i * r + r = add-mul i 1 r ∙ ap (λ m. i * r + m) (one-mul r) in
    let whole : (i + 1) * r ≤ n / r * r = mul-le-mul_right r (omega arith) in
    let within : n / r * r ≤ n = div-mul-le_self n r in
    ap (take r) (drop-append-le (i * r) rows (row ∷ []) (omega arith))
    ∙ take-append-le r (drop (i * r) rows) (row ∷ []) (omega (arith, length-drop (i * r) rows))

-- row n in its own strip
at : (n i r : ℕ) (rows : List (List ℕ)) (row : List ℕ) → length rows ≡ n → 0 < r → i ≡ n / r → take r (drop (i * r) (rows ++ row ∷ [])) ≡ take r (drop (i * r) rows) ++ row ∷ []
at n i r rows row len some here =
    let within : i * r ≤ n = rw here (div-mul-le_self n r) in
    let less : n < i * r + r = rw here (lt-div-mul-add some) in
    let left : _ = length-drop (i * r) rows in
    ap (take r) (drop-append-le (i * r) rows (row ∷ []) (omega arith))
    ∙ take_all r (drop (i * r) rows ++ row ∷ []) (omega (arith, length-append (drop (i * r) rows) (row ∷ [])))
    ∙ ap (λ front. front ++ row ∷ []) (sym (take_all r (drop (i * r) rows) (omega arith)))

-- a strip after the new row, which has no rows yet
past : (n i r : ℕ) (rows : List (List ℕ)) (row : List ℕ) → length rows ≡ n → 0 < r → n / r < i → take r (drop (i * r) (rows ++ row ∷ [])) ≡ take r (drop (i * r) rows)
past n i r rows row len some after =
    let next : (n / r + 1) * r ≡ n / r * r + r = add-mul (n / r) 1 r ∙ ap (λ m. n / r * r + m) (one-mul r) in
    let whole : (n / r + 1) * r ≤ i * r = mul-le-mul_right r (omega arith) in
    let less : n < n / r * r + r = lt-div-mul-add some in
    ap (take r) (drop_all (i * r) (rows ++ row ∷ []) (omega (arith, length-append rows (row ∷ []))) ∙ sym (drop_all (i * r) rows (omega arith)))

-- the strip of the next row grows by the row's packed length
pub size_of-more : (width : ℕ) (rows : List (List ℕ)) (row : List ℕ) (i : ℕ) → i ≡ length rows / rows_each width
    → size_of width (rows ++ row ∷ []) i ≡ size_of width rows i + length (packing row)
size_of-more width rows row i here =
    ap (λ strip. length (flat_map packing strip)) (at (length rows) i (rows_each width) rows row refl (omega arith) here)
    ∙ ap length (flat_map-append packing (rows_in width rows i) (row ∷ []))
    ∙ length-append (flat_map packing (rows_in width rows i)) (packing row ++ [])
    ∙ ap (λ last. size_of width rows i + length last) (append-nil (packing row))

-- all other strips are unchanged
pub size_of-other : (width : ℕ) (rows : List (List ℕ)) (row : List ℕ) (i : ℕ) → i ≢ length rows / rows_each width
    → size_of width (rows ++ row ∷ []) i ≡ size_of width rows i
size_of-other width rows row i other =
    ap (λ strip. length (flat_map packing strip))
    (⊎_elim
    (λ (before : i < length rows / rows_each width). behind (length rows) i (rows_each width) rows row refl (omega arith) before)
    (λ (rest : length rows / rows_each width ≤ i). past (length rows) i (rows_each width) rows row refl (omega arith) (omega arith))
    (cases_lt i (length rows / rows_each width)))

-- the strip of a row is one of the plate's strips
pub strip-in_plate : (width height y : ℕ) → y < height → y / rows_each width < strip_count width height
strip-in_plate width height y below =
    let all : height ≤ strip_count width height * rows_each width = rows-in_strips width height in
    let within : y / rows_each width * rows_each width ≤ y = div-mul-le_self y (rows_each width) in
    ⊎_elim
    (λ (less : y / rows_each width < strip_count width height). less)
    (λ (more : strip_count width height ≤ y / rows_each width).
    absurd (let many : strip_count width height * rows_each width ≤ y / rows_each width * rows_each width = mul-le-mul_right (rows_each width) more in omega arith))
    (cases_lt (y / rows_each width) (strip_count width height))

pub length-counts_so_far : (width height : ℕ) (rows : List (List ℕ)) → length (counts_so_far width height rows) ≡ strip_count width height
unfolding counts_so_far
length-counts_so_far width height rows = length-map-range_with_len (size_of width rows) 0 (strip_count width height)

-- count i
pub get_or-counts_so_far : (width height : ℕ) (rows : List (List ℕ)) (i : ℕ) → i < strip_count width height → get_or (counts_so_far width height rows) i 0 ≡ size_of width rows i
unfolding counts_so_far
get_or-counts_so_far width height rows i below = get_or-map-range_with_len (size_of width rows) 0 (strip_count width height) i i 0 below (omega arith)

-- before the first row all counts are 0
pub counts_so_far-none : (width height : ℕ) → counts_so_far width height [] ≡ replicate (strip_count width height) 0
counts_so_far-none width height =
    let len : _ = length-counts_so_far width height [] in
    same_number_lists (counts_so_far width height []) (replicate (strip_count width height) 0) (len ∙ sym (length-replicate (strip_count width height) 0))
    (λ k below.
    let within : k < strip_count width height = omega arith in
    get_or-counts_so_far width height [] k within ∙ none k ∙ sym (get_or-replicate (strip_count width height) k 0 0 within)) where
      none : (k : ℕ) → size_of width [] k ≡ 0
      none k =
          ap (λ strip. length (flat_map packing strip)) (ap (take (rows_each width)) (drop_all (k * rows_each width) [] (omega arith)) ∙ take_all (rows_each width) [] (omega arith))

-- one more row adds its packed length to the count of its strip; all other counts are unchanged
pub counts_so_far-more : (width height : ℕ) (rows : List (List ℕ)) (row : List ℕ) → length rows < height
    → counts_so_far width height (rows ++ row ∷ [])
    ≡ set (counts_so_far width height rows) (length rows / rows_each width) (get_or (counts_so_far width height rows) (length rows / rows_each width) 0 + length (packing row))
counts_so_far-more width height rows row below =
    let y : ℕ = length rows / rows_each width in
    let here : y < strip_count width height = strip-in_plate width height (length rows) below in
    let counts : List ℕ = counts_so_far width height rows in
    let len : length counts ≡ strip_count width height = length-counts_so_far width height rows in
    let len' : _ = length-counts_so_far width height (rows ++ row ∷ []) in
    same_number_lists (counts_so_far width height (rows ++ row ∷ [])) (set counts y (get_or counts y 0 + length (packing row)))
    (len' ∙ sym len ∙ sym (length-set counts y (get_or counts y 0 + length (packing row))))
    (λ k less.
    let within : k < strip_count width height = omega arith in
    ⊎_elim
    (λ (same : k ≡ y).
    get_or-counts_so_far width height (rows ++ row ∷ []) k within
    ∙ size_of-more width rows row k same
    ∙ ap (λ n. n + length (packing row)) (sym (get_or-counts_so_far width height rows k within) ∙ ap (λ i. get_or counts i 0) same)
    ∙ sym (ap (λ i. get_or (set counts y (get_or counts y 0 + length (packing row))) i 0) same ∙ get_or-set_same counts y (get_or counts y 0 + length (packing row)) 0 (omega arith)))
    (λ (other : k ≢ y).
    get_or-counts_so_far width height (rows ++ row ∷ []) k within
    ∙ size_of-other width rows row k other
    ∙ sym (get_or-counts_so_far width height rows k within)
    ∙ sym (get_or-set_other counts y k (get_or counts y 0 + length (packing row)) 0 other))
    (cases_eq k y))

-- with all rows, the counts are those of the plate
pub counts_so_far-all : (width height : ℕ) (rows : List (List ℕ)) → length rows ≡ height → counts_so_far width height rows ≡ strip_counts width rows
unfolding counts_so_far strip_counts
counts_so_far-all width height rows all = ap (λ n. map (size_of width rows) (range_with_len 0 (strip_count width n))) (sym all)

-- the total packed length of rows of equal length is bounded
pub length-packed : (size : ℕ) (rows : List (List ℕ)) → All (λ row. length row ≡ size) rows → length (flat_map packing rows) ≤ length rows * packed_bound size
length-packed size [] each = omega arith
length-packed size (row ∷ rows) each =
    let len : length row ≡ size = each 0 row (omega arith) in
    let first : length (packing row) ≤ packed_bound size = let P : ℕ → Type 0 = λ n. length (packing row) ≤ packed_bound n in subst P len (packing_bounded row) in
    let rest : length (flat_map packing rows) ≤ length rows * packed_bound size = length-packed size rows (λ k d less. each (suc k) d (omega arith)) in
    let both : (length rows + 1) * packed_bound size ≡ length rows * packed_bound size + packed_bound size = add-mul (length rows) 1 (packed_bound size) ∙ ap (λ n. length rows * packed_bound size + n) (one-mul (packed_bound size)) in
    let all : length (row ∷ rows) ≡ length rows + 1 = omega arith in
    rw (all, both) (omega (arith, length-append (packing row) (flat_map packing rows)))

-- the counts sum to the total packed length of the rows
pub sum-counts_so_far : (width height : ℕ) (rows : List (List ℕ)) → length rows ≤ height → sum (counts_so_far width height rows) ≡ length (flat_map packing rows)
unfolding counts_so_far
sum-counts_so_far width height rows within =
    sum-sizes width rows (strip_count width height)
    ∙ ap (λ all. length (flat_map packing all)) (take_all (strip_count width height * rows_each width) rows (omega (arith, rows-in_strips width height)))

-- every offset in a plate fits in 32 bits
pub IsPlaceable-so_far : (width height : ℕ) (rows : List (List ℕ)) → IsSide width → IsSide height → length rows ≤ height → All (λ row. length row ≡ row_size width) rows
    → IsPlaceable (counts_so_far width height rows)
IsPlaceable-so_far width height rows wide high within each =
    let packed : length (flat_map packing rows) ≤ length rows * packed_bound (row_size width) = length-packed (row_size width) rows each in
    let small : packed_bound (row_size width) ≤ 8256 = omega (arith, wide.1) in
    let most : length rows * packed_bound (row_size width) ≤ length rows * 8256 = mul-le-mul_left (length rows) small in
    omega (arith, high.1, sum-counts_so_far width height rows within)

-- with one more row, the count of its strip still fits in 32 bits
pub count-fits : (width height : ℕ) (rows : List (List ℕ)) (row : List ℕ) → IsSide width → IsSide height → length rows < height
    → All (λ row. length row ≡ row_size width) rows → length row ≡ row_size width
    → get_or (counts_so_far width height rows) (length rows / rows_each width) 0 + length (packing row) ≤ 4000000000
count-fits width height rows row wide high below each len =
    let y : ℕ = length rows / rows_each width in
    let counts : List ℕ = counts_so_far width height rows in
    let all : All (λ (row' : List ℕ). length row' ≡ row_size width) (rows ++ row ∷ []) =
    All-append (λ (row' : List ℕ). length row' ≡ row_size width) rows (row ∷ []) each
    (All-cons (λ (row' : List ℕ). length row' ≡ row_size width) row [] len (All-nil (λ (row' : List ℕ). length row' ≡ row_size width))) in
    let more : length (rows ++ row ∷ []) ≤ height = omega (arith, length-append rows (row ∷ [])) in
    let fits : IsPlaceable (counts_so_far width height (rows ++ row ∷ [])) = IsPlaceable-so_far width height (rows ++ row ∷ []) wide high more all in
    let here : y < strip_count width height = strip-in_plate width height (length rows) below in
    let grown : _ = counts_so_far-more width height rows row below in
    let one : get_or (counts_so_far width height (rows ++ row ∷ [])) y 0 ≡ get_or counts y 0 + length (packing row) =
    ap (λ all. get_or all y 0) grown ∙ get_or-set_same counts y (get_or counts y 0 + length (packing row)) 0 (omega (arith, length-counts_so_far width height rows)) in
    let part : get_or (counts_so_far width height (rows ++ row ∷ [])) y 0 ≤ sum (counts_so_far width height (rows ++ row ∷ [])) =
    get_or-le-sum_by (λ n. n) (counts_so_far width height (rows ++ row ∷ [])) y 0 (omega (arith, length-counts_so_far width height (rows ++ row ∷ []))) in
    omega (arith, one, part, fits)
