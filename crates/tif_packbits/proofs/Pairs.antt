-- Runs and literals at the start of a row, from a word of pairs: bit k is set if byte k equals byte k + 1.
use Rattle.std.proofs.Common.{◌≡◌, ℕ, zero, suc, ◌+◌, ◌-◌, ◌/◌, ◌%◌, ◌^◌, ◌<◌, ◌≤◌, ⊎_elim, Bool, true, false, eqb, cond, List, [], ◌∷◌, length, take, drop, map, get_or, min, bit_and, refl, sym, ap, ◌∙◌, arith, w8, w64}
use Rattle.std.specs.Int.{bit_at, trailing_zeros, trailing_ones}
use Rattle.std.proofs.lemmas.Bool.{eq-eqb, eqb-true, cond-true, cond-false, cases_lt, cases_Bool}
use Rattle.std.proofs.lemmas.List.{drop-drop, get_or-take, get_or-drop, length-take-le, length-drop, get_or-replicate, take_rest}
use Rattle.std.proofs.lemmas.Nat.{and_le_l, and_le_r, div_below, pow-add, pow_pos}
use Rattle.std.proofs.Math.Nat.{div-div-eq-div-mul, pow-le-pow_right}
use Rattle.std.proofs.lemmas.Nat.Bits.{bit_at_and, bit_at-zero, bit_at_lowest, bit_at-suc, bit_at_above, bit_at-lt, bit_at-trailing_zeros, bit_at-trailing_ones}
use Rattle.std.proofs.lemmas.Simd.{length-zip2, get_or-zip2, tops_compared, mask_l-lt, mask_l-mod, bit_mask_l}
use lib.Lanes.{mask_l, top, zip2}
use Rattle.tif_packbits.specs.Front.{HasPairs}
use Rattle.tif_packbits.specs.Packbits.{run_len, begins_run, literal_len}
use Rattle.tif_packbits.proofs.Packing.{take-run_len, run_len-begins}
use Rattle.tif_packbits.proofs.Fronts.{run_len_stops, literal_len_stops, begins_run-here, begins_run-first, begins_run-second}

-- the mask from comparing the first block with the block one byte later
pub pairs_of_mask : (row : List ℕ) → 32 < length row → HasPairs row 32 (mask_l (map (top 7) (zip2 (λ a b. cond (eqb a b) 255 0) (take 32 row) (take 32 (drop 1 row)))) % 2 ^ 64)
pairs_of_mask row long =
    let here : length (take 32 row) ≡ 32 = length-take-le 32 row (omega arith) in
    let next : length (take 32 (drop 1 row)) ≡ 32 = length-take-le 32 (drop 1 row) (omega (arith, length-drop 1 row)) in
    let tests : List Bool = zip2 eqb (take 32 row) (take 32 (drop 1 row)) in
    let count : length tests ≡ 32 = length-zip2 eqb (take 32 row) (take 32 (drop 1 row)) (here ∙ sym next) ∙ here in
    let is : mask_l (map (top 7) (zip2 (λ a b. cond (eqb a b) 255 0) (take 32 row) (take 32 (drop 1 row)))) % 2 ^ 64 ≡ mask_l tests =
    ap (λ ms. mask_l ms % 2 ^ 64) (tops_compared w8 eqb (take 32 row) (take 32 (drop 1 row))) ∙ mask_l-mod tests 64 (omega arith) in
    record {
      word = rw is (rw (count) at (mask_l-lt tests));
      bits = λ k below.
          ap (λ n. bit_at n k) is ∙ bit_mask_l tests k
          ∙ ap (λ b. cond b 1 0) (get_or-zip2 eqb (take 32 row) (take 32 (drop 1 row)) k 0 0 false (omega arith) (omega arith)
          ∙ ap (λ x. eqb x (get_or (take 32 (drop 1 row)) k 0)) (get_or-take 32 row k 0 below)
          ∙ ap (eqb (get_or row k 0)) (get_or-take 32 (drop 1 row) k 0 below ∙ get_or-drop 1 row k 0 ∙ ap (λ i. get_or row i 0) (omega arith)));
    }

-- a set bit means an equal pair, a clear bit different bytes
set_is_pair : (a b bit : ℕ) → bit ≡ cond (eqb a b) 1 0 → bit ≡ 1 → a ≡ b
set_is_pair a b bit is set =
    ⊎_elim
    (λ (same : eqb a b ≡ true). eqb-true a b same)
    (λ (other : eqb a b ≡ false). let none : bit ≡ 0 = is ∙ cond-false (eqb a b) 1 0 other in absurd (omega arith))
    (cases_Bool (eqb a b))

pair_is_set : (a b bit : ℕ) → bit ≡ cond (eqb a b) 1 0 → a ≡ b → bit ≡ 1
pair_is_set a b bit is same = is ∙ cond-true (eqb a b) 1 0 (eq-eqb a b same)

pub pair_at : (row : List ℕ) (count pairs k : ℕ) → HasPairs row count pairs → k < count → bit_at pairs k ≡ 1 → get_or row k 0 ≡ get_or row (k + 1) 0
pair_at row count pairs k has below set = set_is_pair (get_or row k 0) (get_or row (k + 1) 0) (bit_at pairs k) (has.bits k below) set

pub no_pair_at : (row : List ℕ) (count pairs k : ℕ) → HasPairs row count pairs → k < count → bit_at pairs k ≡ 0 → get_or row k 0 ≡ get_or row (k + 1) 0 → ⊥
no_pair_at row count pairs k has below none same =
    let set : bit_at pairs k ≡ 1 = pair_is_set (get_or row k 0) (get_or row (k + 1) 0) (bit_at pairs k) (has.bits k below) same in omega arith

-- if each byte equals the next, all equal the first
all_first : (row : List ℕ) (n k : ℕ) → ((i : ℕ) → i < n → get_or row i 0 ≡ get_or row (i + 1) 0) → k ≤ n → get_or row k 0 ≡ get_or row 0 0
all_first row n zero each within = refl
all_first row n (suc k) each within =
    ap (λ i. get_or row i 0) (omega arith) ∙ sym (each k (omega arith)) ∙ all_first row n k each (omega arith)

-- the leading pairs, up to the first unequal one, are a run
pub run_by_pairs : (row : List ℕ) (pairs count equal : ℕ) → count ≤ 32 → count < length row → HasPairs row count pairs → equal ≡ trailing_ones w64 pairs → equal < count → equal + 1 ≡ run_len row
run_by_pairs row pairs count equal most long has is few =
    let word : pairs < 2 ^ 32 = (let wider : 2 ^ count ≤ 2 ^ 32 = pow-le-pow_right (omega arith) most in omega (arith, has.word)) in
    let ends : _ = bit_at-trailing_ones w64 pairs (omega (arith, word)) in
    let each : (i : ℕ) → i < equal → get_or row i 0 ≡ get_or row (i + 1) 0 =
    λ i below. pair_at row count pairs i has (omega arith) (ends.2 i (omega arith)) in
    let stops : bit_at pairs equal ≡ 0 = ap (bit_at pairs) is ∙ ends.1 in
    run_len_stops row (equal + 1) (omega arith) (omega arith)
    (λ k below. all_first row equal k each (omega arith))
    (λ same. no_pair_at row count pairs equal has few stops (all_first row equal equal each (omega arith) ∙ sym same))

-- the word of pairs from index n on
pub pairs_behind : (row : List ℕ) (pairs n : ℕ) → n ≤ 32 → HasPairs row 32 pairs → HasPairs (take (length row - n) (drop n row)) (32 - n) (pairs / 2 ^ n)
pairs_behind row pairs n few has =
    let whole : 32 - n + n ≡ 32 = omega arith in
    rw (take_rest row n) (record {
      word = div_below pairs (2 ^ n) (2 ^ (32 - n)) (pow_pos n) (rw (← pow-add 2 (32 - n) n, whole) has.word);
      bits = λ k below.
          ap (λ m. m % 2) (div-div-eq-div-mul pairs (2 ^ n) (2 ^ k) ∙ ap (λ p. pairs / p) (sym (pow-add 2 n k)))
          ∙ has.bits (n + k) (omega arith)
          ∙ ap (λ x. cond (eqb x (get_or row (n + k + 1) 0)) 1 0) (sym (get_or-drop n row k 0))
          ∙ ap (λ y. cond (eqb (get_or (drop n row) k 0) y) 1 0) (ap (λ i. get_or row i 0) (omega arith) ∙ sym (get_or-drop n row (k + 1) 0));
    })

-- a bit of the word of runs: a pair followed by a pair
run_bit : (pairs k : ℕ) → bit_at (bit_and pairs (pairs / 2)) k ≡ min (bit_at pairs k) (bit_at pairs (k + 1))
run_bit pairs k = bit_at_and pairs (pairs / 2) k ∙ ap (min (bit_at pairs k)) (sym (bit_at-suc pairs k) ∙ ap (bit_at pairs) (omega arith))

-- where the bit is clear no run begins, where it is set one does
none_at : (row : List ℕ) (pairs k : ℕ) → 32 < length row → HasPairs row 32 pairs → k < 31 → bit_at (bit_and pairs (pairs / 2)) k ≡ 0 → begins_run (drop k row) ≡ false
none_at row pairs k long has below clear =
    let none : min (bit_at pairs k) (bit_at pairs (k + 1)) ≡ 0 = sym (run_bit pairs k) ∙ clear in
    ⊎_elim
    (λ (other : bit_at pairs k < 1). begins_run-first row k (omega arith) (no_pair_at row 32 pairs k has (omega arith) (omega arith)))
    (λ (same : 1 ≤ bit_at pairs k).
    begins_run-second row k (omega arith)
    (λ next. no_pair_at row 32 pairs (k + 1) has (omega arith) (omega arith) (next ∙ ap (λ i. get_or row i 0) (omega arith))))
    (cases_lt (bit_at pairs k) 1)

run_at : (row : List ℕ) (pairs k : ℕ) → 32 < length row → HasPairs row 32 pairs → bit_at (bit_and pairs (pairs / 2)) k ≡ 1 → (k < 31) × (begins_run (drop k row) ≡ true)
run_at row pairs k long has set =
    let both : min (bit_at pairs k) (bit_at pairs (k + 1)) ≡ 1 = sym (run_bit pairs k) ∙ set in
    let one : _ = bit_at-lt pairs k in
    let two : _ = bit_at-lt pairs (k + 1) in
    let below : k + 1 < 32 =
    ⊎_elim (λ (less : k + 1 < 32). less)
    (λ (past : 32 ≤ k + 1). let none : bit_at pairs (k + 1) ≡ 0 = bit_at_above pairs 32 (k + 1) has.word past in absurd (omega arith))
    (cases_lt (k + 1) 32) in (
      omega arith,
      begins_run-here row k (omega arith) (pair_at row 32 pairs k has (omega arith) (omega arith))
          (pair_at row 32 pairs (k + 1) has (omega arith) (omega arith) ∙ ap (λ i. get_or row i 0) (omega arith)),
    )

-- the meaning of the lowest set bit of the word of runs
record LowestRun (row : List ℕ) (n : ℕ) : Type 0 where
  below : n < 31
  before : (k : ℕ) → k < n → begins_run (drop k row) ≡ false
  here : begins_run (drop n row) ≡ true

lowest_run : (row : List ℕ) (pairs : ℕ) → 32 < length row → HasPairs row 32 pairs → (bit_and pairs (pairs / 2) ≡ 0 → ⊥) → LowestRun row (trailing_zeros w64 (bit_and pairs (pairs / 2)))
lowest_run row pairs long has some =
    let runs : ℕ = bit_and pairs (pairs / 2) in
    let word : runs ≤ pairs = and_le_l pairs (pairs / 2) in
    let first : _ = bit_at-trailing_zeros w64 runs (omega arith) (omega (arith, has.word)) in
    let at : _ = run_at row pairs (trailing_zeros w64 runs) long has first.1 in
    record {
      below = at.0;
      before = λ k less. none_at row pairs k long has (omega (arith, at.0)) (first.2 k less);
      here = at.1;
    }

-- the first pair followed by a pair ends a literal and begins a run
pub literal_by_pairs : (row : List ℕ) (pairs : ℕ) → 32 < length row → HasPairs row 32 pairs → (bit_and pairs (pairs / 2) ≡ 0 → ⊥)
    → (trailing_zeros w64 (bit_and pairs (pairs / 2)) < 32) × (trailing_zeros w64 (bit_and pairs (pairs / 2)) ≡ literal_len row) × (3 ≤ run_len (drop (trailing_zeros w64 (bit_and pairs (pairs / 2))) row))
literal_by_pairs row pairs long has some =
    let lowest : _ = lowest_run row pairs long has some in (
      omega (arith, lowest.below),
      literal_len_stops row (trailing_zeros w64 (bit_and pairs (pairs / 2))) (omega (arith, lowest.below)) (omega (arith, lowest.below)) lowest.before lowest.here,
      run_len-begins (drop (trailing_zeros w64 (bit_and pairs (pairs / 2))) row) lowest.here,
    )

-- The same from an index on, before which no run begins.
behind : (row : List ℕ) (at n : ℕ) → ((k : ℕ) → k < at → begins_run (drop k row) ≡ false) → ((k : ℕ) → k < n → begins_run (drop k (drop at row)) ≡ false) → (k : ℕ) → k < at + n → begins_run (drop k row) ≡ false
behind row at n before more k less =
    ⊎_elim
    (λ (here : k < at). before k here)
    (λ (past : at ≤ k). ap (λ i. begins_run (drop i row)) (omega arith) ∙ ap begins_run (sym (drop-drop (k - at) at row)) ∙ more (k - at) (omega arith))
    (cases_lt k at)

pub literal_goes_on : (row : List ℕ) (pairs at : ℕ) → at + 32 < length row → HasPairs (take (length row - at) (drop at row)) 32 pairs → bit_and pairs (pairs / 2) ≡ 0 → ((k : ℕ) → k < at → begins_run (drop k row) ≡ false)
    → (k : ℕ) → k < at + 31 → begins_run (drop k row) ≡ false
literal_goes_on row pairs at long has none before =
    let part : HasPairs (drop at row) 32 pairs = rw (take_rest row at) at has in
    let len : _ = length-drop at row in
    behind row at 31 before
    (λ k less. none_at (drop at row) pairs k (omega arith) part less (ap (λ n. bit_at n k) none ∙ bit_at-zero k))

pub literal_ends : (row : List ℕ) (pairs at : ℕ) → at + 32 < length row → HasPairs (take (length row - at) (drop at row)) 32 pairs → (bit_and pairs (pairs / 2) ≡ 0 → ⊥) → ((k : ℕ) → k < at → begins_run (drop k row) ≡ false)
    → (trailing_zeros w64 (bit_and pairs (pairs / 2)) < 31) × ((k : ℕ) → k < at + trailing_zeros w64 (bit_and pairs (pairs / 2)) → begins_run (drop k row) ≡ false)
literal_ends row pairs at long has some before =
    let part : HasPairs (drop at row) 32 pairs = rw (take_rest row at) at has in
    let len : _ = length-drop at row in
    let lowest : _ = lowest_run (drop at row) pairs (omega arith) part some in
    (lowest.below, behind row at (trailing_zeros w64 (bit_and pairs (pairs / 2))) before lowest.before)

-- a run extended by the equal bytes of the next block
pub run_goes_on : (row : List ℕ) (pairs n : ℕ) → 1 ≤ n → n + 32 ≤ length row → HasPairs (take (length row - (n - 1)) (drop (n - 1) row)) 32 pairs → ((k : ℕ) → k < n → get_or row k 0 ≡ get_or row 0 0)
    → (trailing_ones w64 pairs ≤ 32) × ((k : ℕ) → k < n + trailing_ones w64 pairs → get_or row k 0 ≡ get_or row 0 0)
run_goes_on row pairs n some long has before =
    let part : HasPairs (drop (n - 1) row) 32 pairs = rw (take_rest row (n - 1)) at has in
    let ends : _ = bit_at-trailing_ones w64 pairs (omega (arith, part.word)) in
    let few : trailing_ones w64 pairs ≤ 32 =
    ⊎_elim
    (λ (more : 32 < trailing_ones w64 pairs).
    let set : bit_at pairs 32 ≡ 1 = ends.2 32 more in
    let none : bit_at pairs 32 ≡ 0 = bit_at_above pairs 32 32 part.word (omega arith) in absurd (omega arith))
    (λ (less : trailing_ones w64 pairs ≤ 32). less)
    (cases_lt 32 (trailing_ones w64 pairs)) in
    let each : (i : ℕ) → i < trailing_ones w64 pairs → get_or (drop (n - 1) row) i 0 ≡ get_or (drop (n - 1) row) (i + 1) 0 =
    λ i below. pair_at (drop (n - 1) row) 32 pairs i part (omega (arith, few)) (ends.2 i below) in (
      few,
      λ k below.
          ⊎_elim
          (λ (here : k < n). before k here)
          (λ (past : n ≤ k).
          let place : n - 1 + (k - (n - 1)) ≡ k = omega arith in
          let first : n - 1 + 0 ≡ n - 1 = omega arith in
          ap (λ i. get_or row i 0) (sym place) ∙ sym (get_or-drop (n - 1) row (k - (n - 1)) 0)
          ∙ all_first (drop (n - 1) row) (trailing_ones w64 pairs) (k - (n - 1)) each (omega arith)
          ∙ get_or-drop (n - 1) row 0 0 ∙ ap (λ i. get_or row i 0) first ∙ before (n - 1) (omega arith))
          (cases_lt k n),
    )

-- the two lowest bits of a word
low_bits : (n : ℕ) → bit_and n 3 ≡ 3 → (bit_at n 0 ≡ 1) × (bit_at n 1 ≡ 1)
low_bits n both =
    let zero_is : _ = bit_at_and n 3 0 in
    let one_is : _ = bit_at_and n 3 1 in
    let a : bit_at (bit_and n 3) 0 ≡ 1 = ap (λ m. bit_at m 0) both in
    let b : bit_at (bit_and n 3) 1 ≡ 1 = ap (λ m. bit_at m 1) both in
    let c : _ = bit_at-lt n 0 in
    let d : _ = bit_at-lt n 1 in
    (omega arith, omega arith)

low_bits_set : (n : ℕ) → bit_at n 0 ≡ 1 → bit_at n 1 ≡ 1 → bit_and n 3 ≡ 3
low_bits_set n a b =
    let small : bit_and n 3 ≤ 3 = and_le_r n 3 in
    let zero_is : _ = bit_at_and n 3 0 in
    let one_is : _ = bit_at_and n 3 1 in
    let lowest : _ = bit_at_lowest (bit_and n 3) in
    let next : _ = bit_at-suc (bit_and n 3) 0 in
    let next_is : _ = bit_at_lowest (bit_and n 3 / 2) in
    omega arith

-- if the first two bits are set, the row begins with a run; otherwise it does not
pub run_from_pairs : (row : List ℕ) (pairs : ℕ) → 32 < length row → HasPairs row 32 pairs → bit_and pairs 3 ≡ 3 → 3 ≤ run_len row
run_from_pairs row pairs long has both =
    let set : _ = low_bits pairs both in
    run_len-begins row (begins_run-here row 0 (omega arith) (pair_at row 32 pairs 0 has (omega arith) set.0) (pair_at row 32 pairs 1 has (omega arith) set.1))

-- every byte of a run equals the first
in_run : (row : List ℕ) (k : ℕ) → k < run_len row → get_or row k 0 ≡ get_or row 0 0
in_run [] k less = absurd (omega arith)
in_run (byte ∷ row) k less =
    sym (get_or-take (run_len (byte ∷ row)) (byte ∷ row) k 0 less)
    ∙ ap (λ xs. get_or xs k 0) (take-run_len byte row) ∙ get_or-replicate (run_len (byte ∷ row)) k byte 0 less

pub literal_from_pairs : (row : List ℕ) (pairs : ℕ) → 32 < length row → HasPairs row 32 pairs → (bit_and pairs 3 ≡ 3 → ⊥) → run_len row < 3
literal_from_pairs row pairs long has other =
    ⊎_elim
    (λ (short : run_len row < 3). short)
    (λ (run : 3 ≤ run_len row).
    let one : get_or row 1 0 ≡ get_or row 0 0 = in_run row 1 (omega arith) in
    let two : get_or row 2 0 ≡ get_or row 0 0 = in_run row 2 (omega arith) in
    absurd (other (low_bits_set pairs
    (pair_is_set (get_or row 0 0) (get_or row 1 0) (bit_at pairs 0) (has.bits 0 (omega arith)) (sym one))
    (pair_is_set (get_or row 1 0) (get_or row 2 0) (bit_at pairs 1) (has.bits 1 (omega arith)) (one ∙ sym two)))))
    (cases_lt (run_len row) 3)
