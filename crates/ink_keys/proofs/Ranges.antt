-- Sums and counts over a range of numbers.
use Rattle.std.proofs.Common.{◌≡◌, ℕ, zero, suc, ◌+◌, ◌-◌, ◌<◌, ◌≤◌, [], ◌∷◌, ◌++◌, refl, ap, sym, ◌∙◌, arith}
use Rattle.std.specs.Prelude.{sum_by}
use Rattle.std.specs.List.{range_with_len}
use Rattle.std.proofs.lemmas.List.Sums.{sum_by-cons, sum_by-append}

-- a range is its front followed by the rest
pub range-parts : (a n m : ℕ) → range_with_len a (n + m) ≡ range_with_len a n ++ range_with_len (a + n) m
range-parts a zero m =
    let whole : 0 + m ≡ m = omega arith in
    let next : a ≡ a + 0 = omega arith in
    ap (λ k. range_with_len a k) whole ∙ ap (λ k. range_with_len k m) next
range-parts a (suc n) m =
    let whole : suc n + m ≡ suc (n + m) = omega arith in
    let next : a + 1 + n ≡ a + suc n = omega arith in
    ap (λ k. range_with_len a k) whole ∙ ap (λ xs. a ∷ xs) (range-parts (a + 1) n m ∙ ap (λ k. range_with_len (a + 1) n ++ range_with_len k m) next)

pub sum-parts : (f : ℕ → ℕ) (a n m : ℕ) → sum_by f (range_with_len a (n + m)) ≡ sum_by f (range_with_len a n) + sum_by f (range_with_len (a + n) m)
sum-parts f a n m = ap (sum_by f) (range-parts a n m) ∙ sum_by-append f (range_with_len a n) (range_with_len (a + n) m)

-- a sum over one more number
pub sum-more : (f : ℕ → ℕ) (a n j : ℕ) → a + n ≡ j → sum_by f (range_with_len a (n + 1)) ≡ sum_by f (range_with_len a n) + f j
sum-more f a n j last =
    let one : sum_by f (range_with_len (a + n) 1) ≡ f (a + n) = omega (arith, sum_by-cons f (a + n) []) in
    sum-parts f a n 1 ∙ ap (λ k. sum_by f (range_with_len a n) + k) (one ∙ ap f last)

-- the sum of another function that agrees on the range
pub sum-same : (f g : ℕ → ℕ) (a n : ℕ) → ((x : ℕ) → a ≤ x → x < a + n → f x ≡ g x) → sum_by f (range_with_len a n) ≡ sum_by g (range_with_len a n)
sum-same f g a zero same = refl
sum-same f g a (suc n) same =
    let rest = sum-same f g (a + 1) n (λ x low high. same x (omega arith) (omega arith)) in
    let here = same a (omega arith) (omega arith) in
    omega (arith, sum_by-cons f a (range_with_len (a + 1) n), sum_by-cons g a (range_with_len (a + 1) n))

-- a sum of zeros
pub sum-none : (f : ℕ → ℕ) (a n : ℕ) → ((x : ℕ) → a ≤ x → x < a + n → f x ≡ 0) → sum_by f (range_with_len a n) ≡ 0
sum-none f a zero none = refl
sum-none f a (suc n) none =
    let rest = sum-none f (a + 1) n (λ x low high. none x (omega arith) (omega arith)) in
    let here = none a (omega arith) (omega arith) in
    omega (arith, sum_by-cons f a (range_with_len (a + 1) n))

-- a sum of numbers that are each at most one
pub sum-most : (f : ℕ → ℕ) (a n : ℕ) → ((x : ℕ) → f x ≤ 1) → sum_by f (range_with_len a n) ≤ n
sum-most f a zero each = omega arith
sum-most f a (suc n) each =
    let rest = sum-most f (a + 1) n each in
    let here = each a in
    omega (arith, sum_by-cons f a (range_with_len (a + 1) n))

-- a sum whose terms outside a middle part are zero
pub sum-within : (f g : ℕ → ℕ) (n low high : ℕ) → low ≤ high → high ≤ n → ((x : ℕ) → x < low → f x ≡ 0) → ((x : ℕ) → low ≤ x → x < high → f x ≡ g x)
    → ((x : ℕ) → high ≤ x → x < n → f x ≡ 0) → sum_by f (range_with_len 0 n) ≡ sum_by g (range_with_len low (high - low))
sum-within f g n low high order top before inside behind =
    let from_low : 0 + low ≡ low = omega arith in
    let all : low + (high - low + (n - high)) ≡ n = omega arith in
    let whole : sum_by f (range_with_len 0 n) ≡ sum_by f (range_with_len 0 low) + sum_by f (range_with_len low (high - low + (n - high))) =
    ap (λ k. sum_by f (range_with_len 0 k)) (sym all) ∙ sum-parts f 0 low (high - low + (n - high))
    ∙ ap (λ k. sum_by f (range_with_len 0 low) + sum_by f (range_with_len k (high - low + (n - high)))) from_low in
    let upper = sum-parts f low (high - low) (n - high) in
    let front = sum-none f 0 low (λ x _ below. before x (omega arith)) in
    let back = sum-none f (low + (high - low)) (n - high) (λ x from below. behind x (omega arith) (omega arith)) in
    let middle = sum-same f g low (high - low) (λ x from below. inside x from (omega arith)) in
    omega arith

-- a sum over a shifted range, by a function shifted the other way
pub sum-moved : (f g : ℕ → ℕ) (a move b n : ℕ) → a + move ≡ b → ((x : ℕ) → a ≤ x → x < a + n → f x ≡ g (x + move)) → sum_by f (range_with_len a n) ≡ sum_by g (range_with_len b n)
sum-moved f g a move b zero place same = refl
sum-moved f g a move b (suc n) place same =
    let rest = sum-moved f g (a + 1) move (b + 1) n (omega arith) (λ x low high. same x (omega arith) (omega arith)) in
    let here = same a (omega arith) (omega arith) ∙ ap g place in
    omega (arith, sum_by-cons f a (range_with_len (a + 1) n), sum_by-cons g b (range_with_len (b + 1) n))
