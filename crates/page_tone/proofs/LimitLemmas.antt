-- The inks of a pixel under a limit: the shares, and their sum.
use Rattle.std.proofs.Common.{◌≡◌, ℕ, zero, suc, ◌+◌, ◌-◌, ◌*◌, ◌/◌, ◌<◌, ◌≤◌, Bool, true, false, cond, List, [], ◌∷◌, nat_le, min, refl, ap, subst, ◌∙◌, arith}
use Rattle.std.proofs.Math.Nat.{mul-div-le, le_of_mul-le-mul_left, mul-div_cancel, min-eq_left, min-eq_right, min_comm}
use Rattle.std.proofs.lemmas.Bool.Decides.{nat_tests}
use Rattle.std.specs.Prelude.{◌==◌}
use Rattle.page_tone.specs.Limit.{limited, share}

-- a share when the sum of the colours is not 0
pub share-above : (value rest t : ℕ) → 0 < t → share value rest t ≡ value * rest / t
share-above value rest t above = ap (λ test. cond {A = ℕ} test 0 (value * rest / t)) (other t above)
  where
    other : (t : ℕ) → 0 < t → (t == 0) ≡ false
    other t above = grind (arith, nat_tests)

shares_within : (a b c rest : ℕ) → 0 < a + b + c → a * rest / (a + b + c) + b * rest / (a + b + c) + c * rest / (a + b + c) ≤ rest
shares_within a b c rest above =
    let first : (a + b + c) * (a * rest / (a + b + c)) ≤ a * rest = mul-div-le (a * rest) (a + b + c) in
    let second : (a + b + c) * (b * rest / (a + b + c)) ≤ b * rest = mul-div-le (b * rest) (a + b + c) in
    let third : (a + b + c) * (c * rest / (a + b + c)) ≤ c * rest = mul-div-le (c * rest) (a + b + c) in
    let all : (a + b + c) * (a * rest / (a + b + c) + b * rest / (a + b + c) + c * rest / (a + b + c)) ≤ (a + b + c) * rest = omega arith in
    le_of_mul-le-mul_left all above

-- the shares of three colours sum to at most the ink that is shared
pub sum-shares : (a b c rest t : ℕ) → a + b + c ≡ t → share a rest t + share b rest t + share c rest t ≤ rest
sum-shares a b c rest zero is = omega arith
sum-shares a b c rest (suc t) is =
    let all : a * rest / suc t + b * rest / suc t + c * rest / suc t ≤ rest = subst (λ n. a * rest / n + b * rest / n + c * rest / n ≤ rest) is (shares_within a b c rest (omega arith)) in
    rw (share-above a rest (suc t) (omega arith), share-above b rest (suc t) (omega arith), share-above c rest (suc t) (omega arith)) all

-- a colour's share of an amount equal to the sum of the colours is the colour itself
own : (value t : ℕ) → value ≤ t → share value t t ≡ value
own zero zero within = refl
own (suc value) zero within = absurd (omega arith)
own value (suc t) within = share-above value (suc t) (suc t) (omega arith) ∙ mul-div_cancel value (omega arith)

four : (c m y k c' m' y' k' : ℕ) → c ≡ c' → m ≡ m' → y ≡ y' → k ≡ k' → c ∷ m ∷ y ∷ k ∷ [] ≡ c' ∷ m' ∷ y' ∷ k' ∷ []
four c m y k c' m' y' k' cyan magenta yellow black =
    ap (λ n. n ∷ m ∷ y ∷ k ∷ []) cyan ∙ ap (λ n. c' ∷ n ∷ y ∷ k ∷ []) magenta ∙ ap (λ n. c' ∷ m' ∷ n ∷ k ∷ []) yellow ∙ ap (λ n. c' ∷ m' ∷ y' ∷ n ∷ []) black

fits : (sum limit : ℕ) → nat_le sum limit ≡ true → sum ≤ limit
fits sum limit is = grind (arith, nat_tests)

passes : (sum limit : ℕ) → nat_le sum limit ≡ false → limit < sum
passes sum limit is = grind (arith, nat_tests)

-- whether or not there is room for all, the colours share the smaller of what black leaves and their sum
pub limited-is : (c m y k limit b r p q s : ℕ) → b ≡ min limit k → r ≡ min (limit - b) (c + m + y) → p ≡ share c r (c + m + y) → q ≡ share m r (c + m + y) → s ≡ share y r (c + m + y) → p ∷ q ∷ s ∷ b ∷ [] ≡ limited c m y k limit
limited-is c m y k limit b r p q s black rest cyan magenta yellow = by_test (nat_le (c + m + y + k) limit) refl
  where
    by_test : (test : Bool) → nat_le (c + m + y + k) limit ≡ test → p ∷ q ∷ s ∷ b ∷ [] ≡ cond {A = List ℕ} test (c ∷ m ∷ y ∷ k ∷ [])
        (share c (limit - min k limit) (c + m + y) ∷ share m (limit - min k limit) (c + m + y) ∷ share y (limit - min k limit) (c + m + y) ∷ min k limit ∷ [])
    by_test true is =
        let room : c + m + y + k ≤ limit = fits (c + m + y + k) limit is in
        let black_is : b ≡ k = black ∙ min-eq_right (omega (arith, room)) in
        let rest_is : r ≡ c + m + y = rest ∙ min-eq_right (omega (arith, room, black_is)) in
        four p q s b c m y k
        (cyan ∙ ap (λ n. share c n (c + m + y)) rest_is ∙ own c (c + m + y) (omega arith))
        (magenta ∙ ap (λ n. share m n (c + m + y)) rest_is ∙ own m (c + m + y) (omega arith))
        (yellow ∙ ap (λ n. share y n (c + m + y)) rest_is ∙ own y (c + m + y) (omega arith))
        black_is
    by_test false is =
        let over : limit < c + m + y + k = passes (c + m + y + k) limit is in
        let black_is : b ≡ min k limit = black ∙ min_comm limit k in
        let rest_is : r ≡ limit - min k limit = rest ∙ min-eq_left (omega (arith, over, black)) ∙ ap (λ n. limit - n) black_is in
        four p q s b _ _ _ _
        (cyan ∙ ap (λ n. share c n (c + m + y)) rest_is)
        (magenta ∙ ap (λ n. share m n (c + m + y)) rest_is)
        (yellow ∙ ap (λ n. share y n (c + m + y)) rest_is)
        black_is

-- values that sum to at most the limit are unchanged
pub limited-free : (c m y k limit : ℕ) → c + m + y + k ≤ limit → limited c m y k limit ≡ c ∷ m ∷ y ∷ k ∷ []
limited-free c m y k limit within = by_test (nat_le (c + m + y + k) limit) _ _ (room (c + m + y + k) limit within)
  where
    room : (sum limit : ℕ) → sum ≤ limit → nat_le sum limit ≡ true
    room sum limit h = grind (arith, nat_tests)

    by_test : (test : Bool) (some other : List ℕ) → test ≡ true → cond {A = List ℕ} test some other ≡ some
    by_test test some other e = ap (λ t. cond {A = List ℕ} t some other) e
