-- Rows cut into strips: the offset of each strip is 8 plus the byte counts of the strips before it.
use Rattle.std.proofs.Common.{◌≡◌, ℕ, zero, suc, ◌+◌, ◌*◌, ◌<◌, ◌≤◌, List, [], ◌∷◌, length, map, sum, take, get_or, sym, ap, ◌∙◌, arith}
use Rattle.std.specs.Int.{div_ceil}
use Rattle.std.specs.List.{flat_map, range_with_len}
use Rattle.std.proofs.Math.Nat.{add-mul, zero-mul, one-mul}
use Rattle.std.proofs.Math.Seq.{take-add}
use Rattle.std.proofs.lemmas.List.{length-append, take_all}
use Rattle.std.proofs.lemmas.List.FromFn.{get_or-map-range_with_len, length-map-range_with_len, sum_by-map-range_with_len_more, take-map-range_with_len}
use Rattle.std.proofs.lemmas.List.Sums.{sum_by-append}
use Rattle.std.proofs.lemmas.Grind.{div_ceil_times, flat_map-append, same_number_lists, take_at_read}
use Rattle.tif_packbits.specs.Packbits.{packing}
use Rattle.tif_plate.specs.Plate.{rows_each, strip_count, rows_before, rows_in, start_of, size_of, strip_starts, strip_counts}
use Rattle.tif_plate.specs.Tail.{begin_of, begins}
use Rattle.tif_plate.proofs.Rounding.{rounded_up}

-- a partial sum with one more number
pub sum-take_more : (numbers : List ℕ) (i : ℕ) → i < length numbers → sum (take (i + 1) numbers) ≡ sum (take i numbers) + get_or numbers i 0
sum-take_more numbers i below =
    ap sum ((take_at_read numbers i 0 below).1) ∙ sum_by-append (λ n. n) (take i numbers) (get_or numbers i 0 ∷ []) ∙ omega arith

-- the strips together hold at least as many rows as the plate has
pub rows-in_strips : (width height : ℕ) → height ≤ strip_count width height * rows_each width
rows-in_strips width height =
    let some : 0 < rows_each width = omega arith in
    let all : height ≤ div_ceil height (rows_each width) * rows_each width = (div_ceil_times height (rows_each width) some).0 in
    rw (rounded_up height (rows_each width) some) all

-- the rows before strip i + 1 are those before strip i, then those of strip i
length-rows_before : (width : ℕ) (rows : List (List ℕ)) (i : ℕ)
    → length (flat_map packing (rows_before width rows (i + 1))) ≡ length (flat_map packing (rows_before width rows i)) + size_of width rows i
length-rows_before width rows i =
    let more : (i + 1) * rows_each width ≡ i * rows_each width + rows_each width = add-mul i 1 (rows_each width) ∙ ap (λ n. i * rows_each width + n) (one-mul (rows_each width)) in
    ap (λ n. length (flat_map packing (take n rows))) more
    ∙ ap (λ front. length (flat_map packing front)) (take-add (i * rows_each width) (rows_each width) rows)
    ∙ ap length (flat_map-append packing (rows_before width rows i) (rows_in width rows i))
    ∙ length-append (flat_map packing (rows_before width rows i)) (flat_map packing (rows_in width rows i))

-- the first i strips hold exactly the rows before strip i
pub sum-sizes : (width : ℕ) (rows : List (List ℕ)) (i : ℕ) → sum (map (size_of width rows) (range_with_len 0 i)) ≡ length (flat_map packing (rows_before width rows i))
sum-sizes width rows zero = ap (λ n. length (flat_map packing (take n rows))) (sym (zero-mul (rows_each width)))
sum-sizes width rows (suc i) =
    let one : suc i ≡ i + 1 = omega arith in
    ap (λ n. sum (map (size_of width rows) (range_with_len 0 n))) one
    ∙ sum_by-map-range_with_len_more (λ n. n) (size_of width rows) 0 i i (omega arith)
    ∙ ap (λ n. n + size_of width rows i) (sum-sizes width rows i)
    ∙ sym (length-rows_before width rows i)
    ∙ ap (λ n. length (flat_map packing (rows_before width rows n))) (sym one)

-- all strips together hold all rows
pub sum-strip_counts : (width : ℕ) (rows : List (List ℕ)) → sum (strip_counts width rows) ≡ length (flat_map packing rows)
unfolding strip_counts
sum-strip_counts width rows =
    sum-sizes width rows (strip_count width (length rows))
    ∙ ap (λ all. length (flat_map packing all)) (take_all (strip_count width (length rows) * rows_each width) rows (rows-in_strips width (length rows)))

pub length-strip_counts : (width : ℕ) (rows : List (List ℕ)) → length (strip_counts width rows) ≡ strip_count width (length rows)
unfolding strip_counts
length-strip_counts width rows = length-map-range_with_len (size_of width rows) 0 (strip_count width (length rows))

-- each strip begins where the strips before it end
pub begins-strip_counts : (width : ℕ) (rows : List (List ℕ)) → begins (strip_counts width rows) ≡ strip_starts width rows
unfolding strip_counts strip_starts
begins-strip_counts width rows =
    let strips : ℕ = strip_count width (length rows) in
    let counts : List ℕ = map (size_of width rows) (range_with_len 0 strips) in
    let len : length counts ≡ strips = length-map-range_with_len (size_of width rows) 0 strips in
    let begun : length (begins counts) ≡ strips = length-map-range_with_len (begin_of counts) 0 (length counts) ∙ len in
    same_number_lists (begins counts) (map (start_of width rows) (range_with_len 0 strips))
    (begun ∙ sym (length-map-range_with_len (start_of width rows) 0 strips))
    (λ k below.
    let within : k < strips = omega (arith, begun) in
    get_or-map-range_with_len (begin_of counts) 0 (length counts) k k 0 (omega (arith, len)) (omega arith)
    ∙ ap (λ front. 8 + sum front) (take-map-range_with_len (size_of width rows) 0 strips k (omega arith))
    ∙ ap (λ n. 8 + n) (sum-sizes width rows k)
    ∙ sym (get_or-map-range_with_len (start_of width rows) 0 strips k k 0 within (omega arith)))
