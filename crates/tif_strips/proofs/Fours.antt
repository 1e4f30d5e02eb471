-- The four samples of each pixel in a row.
use Rattle.std.proofs.Common.{◌≡◌, ℕ, zero, suc, ◌+◌, ◌-◌, ◌*◌, ◌/◌, ◌%◌, ◌<◌, ◌≤◌, List, length, take, drop, get_or, refl, sym, ap, ◌∙◌, arith, length-drop, zero-add}
use Rattle.std.specs.List.{flat_map, range_with_len}
use Rattle.std.proofs.lemmas.List.{ext_get_or, get_or-append_right, get_or-drop, get_or-take, get_or_append_left, length-append, length-take-le}

-- the length of concatenated groups of four
pub length-fours : (four : ℕ → List ℕ) (start n : ℕ) → ((x : ℕ) → length (four x) ≡ 4)
    → length (flat_map four (range_with_len start n)) ≡ 4 * n
length-fours four start zero fours = refl
length-fours four start (suc n) fours =
    length-append (four start) (flat_map four (range_with_len (start + 1) n)) ∙ omega (arith, fours start, length-fours four (start + 1) n fours)

-- the elements of concatenated groups of four
pub get_or-fours : (four : ℕ → List ℕ) (start n x k : ℕ) → ((x : ℕ) → length (four x) ≡ 4) → x < n → k < 4
    → get_or (flat_map four (range_with_len start n)) (4 * x + k) 0 ≡ get_or (four (start + x)) k 0
get_or-fours four start zero x k fours below small = absurd (omega arith)
get_or-fours four start (suc n) zero k fours below small =
    let rest = flat_map four (range_with_len (start + 1) n) in
    let here : start + 0 ≡ start = omega arith in
    let place : 4 * 0 + k ≡ k = omega arith in
    rw (here, place) (get_or_append_left (four start) rest 0 k (omega (arith, fours start)))
get_or-fours four start (suc n) (suc x) k fours below small =
    let rest = flat_map four (range_with_len (start + 1) n) in
    let place : 4 * suc x + k - 4 ≡ 4 * x + k = omega arith in
    let there : start + 1 + x ≡ start + suc x = omega arith in
    get_or-append_right (four start) rest 4 (4 * suc x + k) 0 (fours start) (omega arith)
    ∙ ap (λ i. get_or rest i 0) place
    ∙ get_or-fours four (start + 1) n x k fours (omega arith) small
    ∙ ap (λ i. get_or (four i) k 0) there

-- a part of concatenated groups of four
pub part_of_fours : (four : ℕ → List ℕ) (first count n : ℕ) (row : List ℕ) → ((x : ℕ) → length (four x) ≡ 4)
    → first + count ≤ n → length row ≡ 4 * count
    → ((x k : ℕ) → x < count → k < 4 → get_or row (4 * x + k) 0 ≡ get_or (four (first + x)) k 0)
    → row ≡ take (4 * count) (drop (4 * first) (flat_map four (range_with_len 0 n)))
part_of_fours four first count n row fours within long each =
    let all = flat_map four (range_with_len 0 n) in
    let size : length (drop (4 * first) all) ≡ 4 * n - 4 * first = length-drop (4 * first) all ∙ ap (λ l. l - 4 * first) (length-fours four 0 n fours) in
    ext_get_or 0 row (take (4 * count) (drop (4 * first) all)) (long ∙ sym (length-take-le (4 * count) (drop (4 * first) all) (omega arith)))
    (λ i below.
    let place : 4 * (i / 4) + i % 4 ≡ i = omega arith in
    let there : 4 * first + i ≡ 4 * (first + i / 4) + i % 4 = omega arith in
    ap (λ j. get_or row j 0) (sym place)
    ∙ each (i / 4) (i % 4) (omega arith) (omega arith)
    ∙ ap (λ x. get_or (four x) (i % 4) 0) (sym (zero-add (first + i / 4)))
    ∙ sym (get_or-fours four 0 n (first + i / 4) (i % 4) fours (omega arith) (omega arith))
    ∙ ap (λ j. get_or all j 0) (sym there)
    ∙ sym (get_or-take (4 * count) (drop (4 * first) all) i 0 (omega arith) ∙ get_or-drop (4 * first) all i 0))
