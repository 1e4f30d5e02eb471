-- Counting over a matrix: each index below the square of the side occurs once.
use Rattle.std.proofs.Common.{◌≡◌, ℕ, zero, suc, ◌+◌, ◌*◌, ◌/◌, ◌%◌, ◌^◌, ◌<◌, ◌≤◌, Bool, true, false, cond, nat_le, eqb, map, nat_lt, add-zero, zero-add, List, [], ◌∷◌, refl, ap, sym, ◌∙◌, arith, inl, inr, subst}
use Rattle.std.proofs.lemmas.Bool.{cases_eq, eq-eqb, ne_eqb}
use Rattle.std.proofs.lemmas.Bool.Decides.{nat_tests}
use Rattle.std.proofs.Math.Nat.{add-suc, add-mod_left, mod-eq_of_lt, two-pow-succ, pow-succ'}
use Rattle.std.specs.List.{count_by, fold, sum_by, range_with_len}
use Rattle.scr_tile.specs.DotLaw.{HasEachIndexOnce, PrintsThresholdsBelow, pixel_count}
use Rattle.scr_tile.specs.Tile.{IsBayerSide, bayer_index, doublings, index_in, quarter, threshold_at, tile_bit}

-- 1 where a test holds, and 0 elsewhere
abbrev pub one_if : Bool → ℕ
one_if b = cond b 1 0

-- the sum of a function over the numbers below n
abbrev pub total : (ℕ → ℕ) → ℕ → ℕ
total f zero = 0
total f (suc n) = total f n + f n

pub total-same : (f g : ℕ → ℕ) (n : ℕ) → ((k : ℕ) → k < n → f k ≡ g k) → total f n ≡ total g n
total-same f g zero same = refl
total-same f g (suc n) same =
    let here : f n ≡ g n = same n (omega arith) in
    let below : total f n ≡ total g n = total-same f g n (λ k h. same k (omega arith)) in
    omega arith

pub total-plus : (f g : ℕ → ℕ) (n : ℕ) → total (λ k. f k + g k) n ≡ total f n + total g n
total-plus f g zero = refl
total-plus f g (suc n) = omega (arith, total-plus f g n)

pub total-add : (f : ℕ → ℕ) (n m : ℕ) → total f (n + m) ≡ total f n + total (λ k. f (n + k)) m
total-add f n zero = simp add-zero
total-add f n (suc m) = rw add-suc (omega (arith, total-add f n m))

pub total-four : (f : ℕ → ℕ) (n : ℕ) → total f (4 * n) ≡ total (λ k. f (4 * k)) n + total (λ k. f (4 * k + 1)) n + total (λ k. f (4 * k + 2)) n + total (λ k. f (4 * k + 3)) n
total-four f zero = refl
total-four f (suc n) =
    let four : total f (4 * n + 4) ≡ total f (4 * n) + total (λ k. f (4 * n + k)) 4 = total-add f (4 * n) 4 in
    let grown : 4 * suc n ≡ 4 * n + 4 = omega arith in
    let first : f (4 * n + 0) ≡ f (4 * n) = ap f (omega arith) in
    rw grown (omega (arith, total-four f n))

-- the sum over a matrix of side 2 ^ e of a function of the index
abbrev pub over_matrix : ℕ → (ℕ → ℕ) → ℕ
over_matrix e f = total (λ y. total (λ x. f (index_in e x y)) (2 ^ e)) (2 ^ e)

-- a column of the left or the right half, reduced to the matrix of half the side
half_column : (n x : ℕ) (far : Bool) → x < n → (cond far n 0 + x) % n ≡ x
half_column n x true within = add-mod_left n x ∙ mod-eq_of_lt within
half_column n x false within = ap (λ k. k % n) (zero-add x) ∙ mod-eq_of_lt within

half_test : (n x : ℕ) (far : Bool) → x < n → nat_le n (cond far n 0 + x) ≡ far
half_test n x true within = grind (arith, nat_tests)
half_test n x false within = grind (arith, nat_tests)

-- the index in each quarter
in_quarter : (e x y : ℕ) (right bottom : Bool) → x < 2 ^ e → y < 2 ^ e → index_in (suc e) (cond right (2 ^ e) 0 + x) (cond bottom (2 ^ e) 0 + y) ≡ 4 * index_in e x y + quarter right bottom
unfolding index_in
in_quarter e x y right bottom column row =
    rw (half_column (2 ^ e) x right column, half_column (2 ^ e) y bottom row, half_test (2 ^ e) x right column, half_test (2 ^ e) y bottom row) refl

-- the sum over one quarter
over_quarter : (e : ℕ) (f : ℕ → ℕ) (right bottom : Bool) → total (λ y. total (λ x. f (index_in (suc e) (cond right (2 ^ e) 0 + x) (cond bottom (2 ^ e) 0 + y))) (2 ^ e)) (2 ^ e) ≡ over_matrix e (λ i. f (4 * i + quarter right bottom))
over_quarter e f right bottom =
    total-same _ _ (2 ^ e) (λ y row. total-same _ _ (2 ^ e) (λ x column. ap f (in_quarter e x y right bottom column row)))

-- the sum over a row, as the sum over its two halves
over_halves : (f : ℕ → ℕ) (n : ℕ) → total f (n + n) ≡ total (λ k. f (0 + k)) n + total (λ k. f (n + k)) n
over_halves f n = total-add f n n ∙ ap (λ t. t + total (λ k. f (n + k)) n) (total-same f (λ k. f (0 + k)) n (λ k h. ap f (sym (zero-add k))))

-- the sum over a matrix is the sum over all indexes
pub over_matrix_is : (e : ℕ) (f : ℕ → ℕ) → over_matrix e f ≡ total f (4 ^ e)
unfolding index_in
over_matrix_is zero f = simp zero-add
over_matrix_is (suc e) f =
    let n = 2 ^ e in
    let g : ℕ → ℕ → ℕ = λ x y. f (index_in (suc e) x y) in
    let rows : over_matrix (suc e) f ≡ total (λ y. total (λ x. g x y) (n + n)) (n + n) = ap (λ m. total (λ y. total (λ x. g x y) m) m) (two-pow-succ e) in
    let halves : total (λ y. total (λ x. g x y) (n + n)) (n + n) ≡ total (λ y. total (λ x. g (0 + x) y) n + total (λ x. g (n + x) y) n) (n + n) =
    total-same _ _ (n + n) (λ y h. over_halves (λ x. g x y) n) in
    let part : ℕ → ℕ = λ q. over_matrix e (λ i. f (4 * i + q)) in
    let top : total (λ y. total (λ x. g (0 + x) (0 + y)) n + total (λ x. g (n + x) (0 + y)) n) n ≡ part 0 + part 2 =
    total-plus (λ y. total (λ x. g (0 + x) (0 + y)) n) (λ y. total (λ x. g (n + x) (0 + y)) n) n
    ∙ ap (λ t. t + total (λ y. total (λ x. g (n + x) (0 + y)) n) n) (over_quarter e f false false)
    ∙ ap (λ t. part 0 + t) (over_quarter e f true false) in
    let bottom : total (λ y. total (λ x. g (0 + x) (n + y)) n + total (λ x. g (n + x) (n + y)) n) n ≡ part 3 + part 1 =
    total-plus (λ y. total (λ x. g (0 + x) (n + y)) n) (λ y. total (λ x. g (n + x) (n + y)) n) n
    ∙ ap (λ t. t + total (λ y. total (λ x. g (n + x) (n + y)) n) n) (over_quarter e f false true)
    ∙ ap (λ t. part 3 + t) (over_quarter e f true true) in
    let split : total (λ y. total (λ x. g (0 + x) y) n + total (λ x. g (n + x) y) n) (n + n) ≡ total (λ y. total (λ x. g (0 + x) (0 + y)) n + total (λ x. g (n + x) (0 + y)) n) n + total (λ y. total (λ x. g (0 + x) (n + y)) n + total (λ x. g (n + x) (n + y)) n) n =
    over_halves (λ y. total (λ x. g (0 + x) y) n + total (λ x. g (n + x) y) n) n in
    let each : (q : ℕ) → part q ≡ total (λ i. f (4 * i + q)) (4 ^ e) = λ q. over_matrix_is e (λ i. f (4 * i + q)) in
    let first : total (λ i. f (4 * i + 0)) (4 ^ e) ≡ total (λ i. f (4 * i)) (4 ^ e) =
    total-same _ _ (4 ^ e) (λ i h. ap f (add-zero (4 * i))) in
    let all : total f (4 ^ suc e) ≡ total f (4 * 4 ^ e) = ap (λ m. total f m) (pow-succ' 4 e) in
    rows ∙ halves ∙ split ∙ omega (arith, top, bottom, each 0, each 1, each 2, each 3, first, all, total-four f (4 ^ e))

-- sums and counts of std over the first n numbers, as totals
fold-from : (f : ℕ → ℕ) (sum a n : ℕ) → fold (λ s k. s + f k) sum (range_with_len a n) ≡ sum + total (λ k. f (a + k)) n
fold-from f sum a zero = sym (add-zero sum)
fold-from f sum a (suc n) =
    let moved : total (λ k. f (a + 1 + k)) n ≡ total (λ k. f (a + (1 + k))) n = total-same _ _ n (λ k h. ap f (omega arith)) in
    let split : total (λ k. f (a + k)) (1 + n) ≡ total (λ k. f (a + k)) 1 + total (λ k. f (a + (1 + k))) n = total-add (λ k. f (a + k)) 1 n in
    let same : suc n ≡ 1 + n = omega arith in
    let whole : total (λ k. f (a + k)) (suc n) ≡ total (λ k. f (a + k)) (1 + n) = ap (λ m. total (λ k. f (a + k)) m) same in
    let first : f (a + 0) ≡ f a = ap f (add-zero a) in
    omega (arith, fold-from f (sum + f a) (a + 1) n, moved, split, whole, first)

pub sum_by-range : (f : ℕ → ℕ) (n : ℕ) → sum_by f (range_with_len 0 n) ≡ total f n
sum_by-range f n = fold-from f 0 0 n ∙ zero-add (total (λ k. f (0 + k)) n) ∙ total-same (λ k. f (0 + k)) f n (λ k h. ap f (zero-add k))

pub count_by-range : (p : ℕ → Bool) (n : ℕ) → count_by p (range_with_len 0 n) ≡ total (λ k. one_if (p k)) n
count_by-range p n = sum_by-range (λ k. one_if (p k)) n

-- no number past the last one occurs, and i occurs once among the numbers below n
never : (n i : ℕ) → n ≤ i → total (λ k. one_if (eqb k i)) n ≡ 0
never zero i past = refl
never (suc n) i past =
    let other : eqb n i ≡ false = grind (arith, nat_tests) in
    let here : one_if (eqb n i) ≡ 0 = ap one_if other in
    omega (arith, never n i (omega arith))

pub total-once : (n i : ℕ) → i < n → total (λ k. one_if (eqb k i)) n ≡ 1
total-once zero i within = absurd (omega arith)
total-once (suc n) i within =
    elim (cases_eq n i) [
      | inl here ↦
          let met : one_if (eqb n i) ≡ 1 = ap one_if (eq-eqb n i here) in
          omega (arith, never n i (omega arith))
      | inr other ↦
          let not_met : one_if (eqb n i) ≡ 0 = ap one_if (ne_eqb n i other) in
          omega (arith, total-once n i (omega arith))
    ]

-- as many pixels of a matrix have an index that passes a test as there are indexes that pass it
pub pixel_count-index : (e : ℕ) (test : ℕ → Bool) → pixel_count (2 ^ e) (λ x y. test (index_in e x y)) ≡ count_by test (range_with_len 0 (4 ^ e))
pixel_count-index e test =
    sum_by-range (λ y. count_by (λ x. test (index_in e x y)) (range_with_len 0 (2 ^ e))) (2 ^ e)
    ∙ total-same _ _ (2 ^ e) (λ y h. count_by-range (λ x. test (index_in e x y)) (2 ^ e))
    ∙ over_matrix_is e (λ i. one_if (test i))
    ∙ sym (count_by-range test (4 ^ e))

-- two tests that agree on a tile count the same pixels
pub pixel_count-same : (n : ℕ) (test other : ℕ → ℕ → Bool) → ((x y : ℕ) → x < n → y < n → test x y ≡ other x y) → pixel_count n test ≡ pixel_count n other
pixel_count-same n test other same =
    sum_by-range (λ y. count_by (λ x. test x y) (range_with_len 0 n)) n
    ∙ total-same _ _ n (λ y row. count_by-range (λ x. test x y) n
    ∙ total-same _ _ n (λ x column. ap one_if (same x y column row))
    ∙ sym (count_by-range (λ x. other x y) n))
    ∙ sym (sum_by-range (λ y. count_by (λ x. other x y) (range_with_len 0 n)) n)

fold-map : (f : ℕ → ℕ) (p : ℕ → Bool) (sum : ℕ) (xs : List ℕ) → fold (λ s x. s + one_if (p x)) sum (map f xs) ≡ fold (λ s x. s + one_if (p (f x))) sum xs
fold-map f p sum [] = refl
fold-map f p sum (x ∷ xs) = fold-map f p (sum + one_if (p (f x))) xs

pub count_by-map : (f : ℕ → ℕ) (p : ℕ → Bool) (xs : List ℕ) → count_by p (map f xs) ≡ count_by (λ i. p (f i)) xs
count_by-map f p xs = fold-map f p 0 xs

-- a side, its exponent and its square
pub record IsDoubled (n e : ℕ) : Type 0 where
  pub side : n ≡ 2 ^ e
  pub exponent : doublings n ≡ e
  pub square : n ^ 2 ≡ 4 ^ e

-- how many pixels of the matrix of side n have an index that passes a test
pub pixel_count-bayer : (n e : ℕ) (test : ℕ → Bool) → IsDoubled n e → pixel_count n (λ x y. test (bayer_index n x y)) ≡ count_by test (range_with_len 0 (n ^ 2))
pixel_count-bayer n e test d =
    ap (λ k. pixel_count n (λ x y. test (index_in k x y))) d.exponent
    ∙ ap (λ m. pixel_count m (λ x y. test (index_in e x y))) d.side
    ∙ pixel_count-index e test
    ∙ ap (λ m. count_by test (range_with_len 0 m)) (sym d.square)

pub indexes_once : (n e : ℕ) → IsDoubled n e → HasEachIndexOnce n
indexes_once n e d =
    λ i within. pixel_count-bayer n e (λ k. eqb k i) d ∙ count_by-range (λ k. eqb k i) (n ^ 2) ∙ total-once (n ^ 2) i within

pub prints_below : (n e : ℕ) → IsDoubled n e → PrintsThresholdsBelow n
prints_below n e d =
    λ value. let test : ℕ → Bool = λ i. nat_lt (i * 255 / n ^ 2) value in
    pixel_count-same n (λ x y. tile_bit value (threshold_at n x y)) (λ x y. test (bayer_index n x y))
    (λ x y column row. ap (λ k. test (bayer_index n k (y % n))) (mod-eq_of_lt column) ∙ ap (λ k. test (bayer_index n x k)) (mod-eq_of_lt row))
    ∙ pixel_count-bayer n e test d
    ∙ sym (count_by-map (λ i. i * 255 / n ^ 2) (λ t. nat_lt t value) (range_with_len 0 (n ^ 2)))

-- the four sides for which tiles are built
doubled_2 : IsDoubled 2 1
doubled_2 = record { side = refl; exponent = refl; square = refl }

doubled_4 : IsDoubled 4 2
doubled_4 = record { side = refl; exponent = refl; square = refl }

doubled_8 : IsDoubled 8 3
doubled_8 = record { side = refl; exponent = refl; square = refl }

doubled_16 : IsDoubled 16 4
doubled_16 = record { side = refl; exponent = refl; square = refl }

pub doubled : (n : ℕ) → IsBayerSide n → (e : ℕ) × IsDoubled n e
doubled n (inl same) = (1, subst (λ m. IsDoubled m 1) (sym same) doubled_2)
doubled n (inr (inl same)) = (2, subst (λ m. IsDoubled m 2) (sym same) doubled_4)
doubled n (inr (inr (inl same))) = (3, subst (λ m. IsDoubled m 3) (sym same) doubled_8)
doubled n (inr (inr (inr same))) = (4, subst (λ m. IsDoubled m 4) (sym same) doubled_16)
