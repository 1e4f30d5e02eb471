-- The table of reciprocals, and that multiplying by one of them gives the quotient.
use Rattle.std.proofs.Common.{◌≡◌, ℕ, zero, suc, ◌+◌, ◌*◌, ◌/◌, ◌^◌, ◌<◌, ◌≤◌, List, map, get_or, refl, sym, ◌∙◌, arith}
use Rattle.std.specs.List.{range_with_len}
use Rattle.std.proofs.lemmas.List.FromFn.{get_or-map-range_with_len}
use Rattle.std.proofs.Math.Nat.{mul-div-le, lt-mul-div-succ, mul-le-mul_left, le_of_mul-le-mul_left, lt_of_mul-lt-mul_left}
use Rattle.std.proofs.lemmas.Nat.{mul-le}
use Rattle.page_tone.specs.Limit.{share}
use Rattle.page_tone.proofs.LimitLemmas.{share-above}

-- an entry of the table; that of 0 is never used
unfoldable pub entry : ℕ → ℕ
entry zero = 268435457
entry (suc n) = 268435456 / suc n + 1

unfoldable pub table : List ℕ
table = map entry (range_with_len 0 768)

entry-is : (t : ℕ) → 0 < t → entry t ≡ 2 ^ 28 / t + 1
unfolding entry
entry-is zero above = absurd (omega arith)
entry-is (suc n) above = refl

pub table_at : (t : ℕ) → t ≤ 765 → 0 < t → get_or table t 0 ≡ 2 ^ 28 / t + 1
unfolding table
table_at t within above = get_or-map-range_with_len entry 0 768 t t 0 (omega arith) (omega arith) ∙ entry-is t above

-- with f = s * r / 16 for the reciprocal r of t, and q the quotient of c * s by t: c * (f + 1) is at least q
-- * 2^24, and less than (q + 1) * 2^24
least : (c s t r f q : ℕ) → 268435456 < t * r → s * r < 16 * f + 16 → q * t ≤ c * s → 0 < t → q * 16777216 ≤ c * (f + 1)
least c s t r f q low below quotient above =
    let one : s * 268435456 ≤ s * (t * r) = mul-le-mul_left s (omega (arith, low)) in
    let two : t * (s * r) ≤ t * (16 * f + 16) = mul-le-mul_left t (omega (arith, below)) in
    let three : c * (s * 268435456) ≤ c * (t * (16 * f + 16)) = mul-le-mul_left c (omega (arith, one, two)) in
    let all : t * (q * 16777216) ≤ t * (c * (f + 1)) = omega (arith, three, quotient) in
    le_of_mul-le-mul_left all above

most : (c s t r f q : ℕ) → t * r ≤ 268435456 + t → 16 * f ≤ s * r → c * s < t * (q + 1) → t ≤ 765 → c ≤ 255 → s ≤ t → c * (f + 1) < (q + 1) * 16777216
most c s t r f q high upto quotient sum value rest =
    let one : s * (t * r) ≤ s * (268435456 + t) = mul-le-mul_left s high in
    let two : t * (16 * f) ≤ t * (s * r) = mul-le-mul_left t upto in
    let three : c * (t * (16 * f)) ≤ c * (s * (268435456 + t)) = mul-le-mul_left c (omega (arith, one, two)) in
    let four : t * (s + 16) ≤ 765 * 781 = mul-le t (s + 16) 765 781 sum (omega arith) in
    let five : c * (t * (s + 16)) ≤ 255 * (765 * 781) = mul-le c (t * (s + 16)) 255 (765 * 781) value four in
    let all : t * (c * (f + 1)) < t * ((q + 1) * 16777216) = omega (arith, three, five, quotient) in
    lt_of_mul-lt-mul_left t all

-- a reciprocal times its sum is slightly more than 2^28
reciprocal-low : (t r : ℕ) → 0 < t → r ≡ 2 ^ 28 / t + 1 → 268435456 < t * r
reciprocal-low t r above is = rw is (lt-mul-div-succ 268435456 above)

reciprocal-high : (t r : ℕ) → r ≡ 2 ^ 28 / t + 1 → t * r ≤ 268435456 + t
reciprocal-high t r is = rw is (omega (arith, mul-div-le 268435456 t))

pub quotient-is : (c s t r : ℕ) → 0 < t → r ≡ 2 ^ 28 / t + 1 → t ≤ 765 → c ≤ 255 → s ≤ t → c * (s * r / 16 + 1) / 2 ^ 24 ≡ c * s / t
quotient-is c s t r above is sum value rest =
    let f = s * r / 16 in
    let q = c * s / t in
    let from : 16 * f ≤ s * r = omega arith in
    let before : s * r < 16 * f + 16 = omega arith in
    let low : q * 16777216 ≤ c * (f + 1) = least c s t r f q (reciprocal-low t r above is) before (omega (arith, mul-div-le (c * s) t)) above in
    let high : c * (f + 1) < (q + 1) * 16777216 = most c s t r f q (reciprocal-high t r is) from (lt-mul-div-succ (c * s) above) sum value rest in
    omega (arith, low, high)

-- a colour's part, computed by the multiplication, is its share
pub part-is : (c s t r : ℕ) → (0 < t → r ≡ 2 ^ 28 / t + 1) → t ≤ 765 → c ≤ 255 → c ≤ t → s ≤ t → c * (s * r / 16 + 1) / 2 ^ 24 ≡ share c s t
part-is zero s zero r is sum value within rest = omega arith
part-is (suc c) s zero r is sum value within rest = absurd (omega arith)
part-is c s (suc t) r is sum value within rest = quotient-is c s (suc t) r (omega arith) (is (omega arith)) sum value rest ∙ sym (share-above c s (suc t) (omega arith))

pub product-bound : (s t r : ℕ) → (0 < t → r ≡ 2 ^ 28 / t + 1) → t ≤ 765 → s ≤ t → s * r ≤ 268436221
product-bound zero t r is sum rest = omega arith
product-bound (suc s) t r is sum rest =
    let high : t * r ≤ 268435456 + t = reciprocal-high t r (is (omega arith)) in
    let product : suc s * r ≤ t * r = mul-le (suc s) r t r rest (omega arith) in
    omega (arith, high, product)
