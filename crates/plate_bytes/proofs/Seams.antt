-- The row that contains an offset, found from where the rows end.
use Rattle.std.proofs.Common.{◌≡◌, ℕ, zero, suc, ◌+◌, ◌-◌, ◌<◌, ◌≤◌, Bool, true, false, List, [], ◌∷◌, ◌++◌, length, take, get_or, Option, Some, None, cond, refl, sym, ap, ◌∙◌, subst, ⊎_elim, arith}
use Rattle.std.specs.List.{find, flat_map, range_with_len}
use Rattle.std.proofs.Math.Seq.{take-add, get_or-append_seam}
use Rattle.std.proofs.lemmas.Bool.{cases_eq, cases_lt}
use Rattle.std.proofs.lemmas.Bool.Decides.{nat_tests}
use Rattle.std.proofs.lemmas.List.{append-nil, length-append, take-append-le, take_all, get_or_append_left}
use Rattle.std.proofs.lemmas.List.FromFn.{get_or-map-range_with_len, length-map-range_with_len}
use Rattle.std.proofs.lemmas.Grind.{flat_map-append, same_number_lists}
use Rattle.tif_packbits.specs.Packbits.{packing}
use Rattle.plate_bytes.specs.Places.{IsSeam, row_start, row_ends, holds_offset, row_holding}

-- the first number of a range that satisfies p
pub find-range : (p : ℕ → Bool) (from n k : ℕ) → from ≤ k → k < from + n → p k ≡ true → ((j : ℕ) → from ≤ j → j < k → p j ≡ false) → find p (range_with_len from n) ≡ Some k
find-range p from zero k low high here none = absurd (omega arith)
find-range p from (suc n) k low high here none =
    ⊎_elim
    (λ (same : from ≡ k). ap (λ b. cond b (Some from) (find p (range_with_len (from + 1) n))) (ap p same ∙ here) ∙ ap {A = ℕ} {B = Option ℕ} (λ i. Some i) same)
    (λ (other : from ≡ k → ⊥).
    ap (λ b. cond b (Some from) (find p (range_with_len (from + 1) n))) (none from (omega arith) (omega arith))
    ∙ find-range p (from + 1) n k (omega arith) (omega arith) here (λ j l h. none j (omega arith) h))
    (cases_eq from k)

-- no number of the range satisfies p
pub find-range_none : (p : ℕ → Bool) (from n : ℕ) → ((j : ℕ) → from ≤ j → j < from + n → p j ≡ false) → find p (range_with_len from n) ≡ None
find-range_none p from zero none = refl
find-range_none p from (suc n) none =
    ap (λ b. cond b (Some from) (find p (range_with_len (from + 1) n))) (none from (omega arith) (omega arith))
    ∙ find-range_none p (from + 1) n (λ j l h. none j (omega arith) (omega arith))

pub length-row_ends : (rows : List (List ℕ)) → length (row_ends rows) ≡ length rows
unfolding row_ends
length-row_ends rows = length-map-range_with_len (λ y. row_start rows (y + 1)) 0 (length rows)

-- row y ends where the next one begins
pub row_ends-at : (rows : List (List ℕ)) (y : ℕ) → y < length rows → get_or (row_ends rows) y 0 ≡ row_start rows (y + 1)
unfolding row_ends
row_ends-at rows y below = get_or-map-range_with_len (λ y. row_start rows (y + 1)) 0 (length rows) y y 0 below (omega arith)

-- a later row begins no earlier
pub row_start-le : (rows : List (List ℕ)) (y more : ℕ) → row_start rows y ≤ row_start rows (y + more)
row_start-le rows y more =
    let cut : length (flat_map packing (take (y + more) rows)) ≡ _ =
    ap (λ front. length (flat_map packing front)) (take-add y more rows) ∙ ap length (flat_map-append packing (take y rows) _) ∙ length-append (flat_map packing (take y rows)) _ in
    omega (arith, cut)

-- the end of the first n rows; byte 8 if n is 0
pub start-at_ends : (rows : List (List ℕ)) (n : ℕ) → n ≤ length rows → get_or (8 ∷ row_ends rows) n 0 ≡ row_start rows n
start-at_ends rows zero within = refl
start-at_ends rows (suc n) within =
    let next : n + 1 ≡ suc n = omega arith in
    row_ends-at rows n within ∙ ap (row_start rows) next

-- a row that begins after an offset, or ends at or before it, does not contain it
late : (rows : List (List ℕ)) (at y : ℕ) → at < row_start rows y → holds_offset rows at y ≡ false
late rows at y behind = grind (arith, nat_tests)

early : (rows : List (List ℕ)) (at y : ℕ) → row_start rows (y + 1) ≤ at → holds_offset rows at y ≡ false
early rows at y before = grind (arith, nat_tests)

here : (rows : List (List ℕ)) (at y : ℕ) → row_start rows y ≤ at → at < row_start rows (y + 1) → holds_offset rows at y ≡ true
here rows at y from below = grind (arith, nat_tests)

-- no row contains an offset before the first row
pub row_holding-front : (rows : List (List ℕ)) (at : ℕ) → at < 8 → row_holding rows at ≡ None
unfolding row_holding
row_holding-front rows at front = find-range_none (holds_offset rows at) 0 (length rows) (λ j _ _. late rows at j (omega arith))

-- the row after the seam contains the offset
pub row_holding-seam : (ends : List ℕ) (rows : List (List ℕ)) (at n : ℕ) → ends ≡ row_ends rows → IsSeam ends at n → n < length ends → row_holding rows at ≡ Some n
unfolding row_holding
row_holding-seam ends rows at n are seam below =
    let many : length ends ≡ length rows = ap length are ∙ length-row_ends rows in
    let from : row_start rows n ≤ at = subst (λ m. m ≤ at) (ap (λ e. get_or (8 ∷ e) n 0) are ∙ start-at_ends rows n (omega arith)) seam.before in
    let to : at < row_start rows (n + 1) = subst (λ m. at < m) (ap (λ e. get_or e n 0) are ∙ row_ends-at rows n (omega arith)) (seam.behind below) in
    find-range (holds_offset rows at) 0 (length rows) n (omega arith) (omega arith) (here rows at n from to)
    (λ j _ less. early rows at j (
    let le : row_start rows (j + 1) ≤ row_start rows ((j + 1) + (n - (j + 1))) = row_start-le rows (j + 1) (n - (j + 1)) in
    let same : row_start rows ((j + 1) + (n - (j + 1))) ≡ row_start rows n = ap (row_start rows) (omega arith) in
    omega (arith, le, same, from)))

-- no row contains an offset after the last row
pub row_holding-behind : (ends : List ℕ) (rows : List (List ℕ)) (at n : ℕ) → ends ≡ row_ends rows → IsSeam ends at n → length ends ≤ n → row_holding rows at ≡ None
unfolding row_holding
row_holding-behind ends rows at n are seam behind =
    let many : length ends ≡ length rows = ap length are ∙ length-row_ends rows in
    let from : row_start rows n ≤ at = subst (λ m. m ≤ at) (ap (λ e. get_or (8 ∷ e) n 0) are ∙ start-at_ends rows n (omega (arith, seam.within))) seam.before in
    find-range_none (holds_offset rows at) 0 (length rows)
    (λ j _ less. early rows at j (
    let le : row_start rows (j + 1) ≤ row_start rows ((j + 1) + (n - (j + 1))) = row_start-le rows (j + 1) (n - (j + 1)) in
    let same : row_start rows ((j + 1) + (n - (j + 1))) ≡ row_start rows n = ap (row_start rows) (omega (arith, seam.within)) in
    omega (arith, le, same, from)))

-- the starts of the existing rows are unchanged by one more row
front-start : (rows : List (List ℕ)) (row : List ℕ) (y : ℕ) → y ≤ length rows → row_start (rows ++ row ∷ []) y ≡ row_start rows y
front-start rows row y within = ap (λ front. 8 + length (flat_map packing front)) (take-append-le y rows (row ∷ []) within)

last-start : (rows : List (List ℕ)) (row : List ℕ) → row_start (rows ++ row ∷ []) (length rows + 1) ≡ 8 + length (flat_map packing rows ++ packing row)
last-start rows row =
    ap (λ front. 8 + length (flat_map packing front)) (take_all (length rows + 1) (rows ++ row ∷ []) (omega (arith, length-append rows (row ∷ []))))
    ∙ ap (λ l. 8 + length l) (flat_map-append packing rows (row ∷ []) ∙ ap (λ l. flat_map packing rows ++ l) (append-nil (packing row)))

-- the ends after one more row
pub row_ends-more : (rows : List (List ℕ)) (row : List ℕ) → row_ends (rows ++ row ∷ []) ≡ row_ends rows ++ (8 + length (flat_map packing rows ++ packing row)) ∷ []
row_ends-more rows row =
    let many : length (rows ++ row ∷ []) ≡ length rows + 1 = length-append rows (row ∷ []) in
    let last : ℕ = 8 + length (flat_map packing rows ++ packing row) in
    let both : length (row_ends rows ++ last ∷ []) ≡ length rows + 1 = length-append (row_ends rows) (last ∷ []) ∙ ap (λ n. n + 1) (length-row_ends rows) in
    same_number_lists (row_ends (rows ++ row ∷ [])) (row_ends rows ++ last ∷ [])
    (length-row_ends (rows ++ row ∷ []) ∙ many ∙ sym both)
    (λ k less.
    let within : k < length (rows ++ row ∷ []) = omega (arith, length-row_ends (rows ++ row ∷ [])) in
    row_ends-at (rows ++ row ∷ []) k within
    ∙ ⊎_elim
    (λ (first : k < length rows).
    let there : k < length (row_ends rows) = omega (arith, length-row_ends rows) in
    front-start rows row (k + 1) (omega arith) ∙ sym (row_ends-at rows k first) ∙ sym (get_or_append_left (row_ends rows) (last ∷ []) 0 k there))
    (λ (end : length rows ≤ k).
    let is : k ≡ length rows = omega (arith, many) in
    let there : k ≡ length (row_ends rows) = omega (arith, is, length-row_ends rows) in
    ap (λ n. row_start (rows ++ row ∷ []) (n + 1)) is ∙ last-start rows row
    ∙ sym (ap (λ n. get_or (row_ends rows ++ last ∷ []) n 0) there ∙ get_or-append_seam (row_ends rows) last [] 0))
    (cases_lt k (length rows)))

pub ruleset seams = (row_holding-front, row_holding-seam, row_holding-behind)
