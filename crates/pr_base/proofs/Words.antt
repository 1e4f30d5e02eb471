-- The bits of a 64-bit number as eight bytes, most significant first.
use Rattle.std.proofs.Common.{◌≡◌, ℕ, zero, suc, ◌+◌, ◌-◌, ◌*◌, ◌/◌, ◌%◌, ◌^◌, ◌<◌, eqb, get_or, refl, ap, sym, ◌∙◌, arith, w64}
use Rattle.std.specs.Int.{byte_at, bytes_high_first, to_be_bytes}
use Rattle.std.proofs.lemmas.Nat.{div-add-mod', pow-add}
use Rattle.std.proofs.lemmas.Nat.Bits.{bit_at_cat_low}
use Rattle.std.proofs.Math.Nat.{div-div-eq-div-mul, div-one, pow-suc}
use Rattle.pr_base.specs.Bits.{byte_bit}

pow_256 : (i : ℕ) → 256 ^ i ≡ 2 ^ (8 * i)
pow_256 zero = refl
pow_256 (suc i) =
    let eight : 8 * i + 8 ≡ 8 * suc i = omega arith in
    pow-suc 256 i ∙ ap (λ p. p * 256) (pow_256 i) ∙ sym (pow-add 2 (8 * i) 8) ∙ ap (λ k. 2 ^ k) eight

byte_at_is : (i n : ℕ) → byte_at i n ≡ n / 2 ^ (8 * i) % 256
byte_at_is zero n = ap (λ m. m % 256) (sym (div-one n))
byte_at_is (suc i) n = ap (λ p. n / p % 256) (pow_256 (suc i))

-- byte j of a number, most significant first
high_first : (k n j : ℕ) → j < k → get_or (bytes_high_first k n) j 0 ≡ byte_at (k - 1 - j) n
high_first zero n j within = absurd (omega arith)
high_first (suc k) n zero within = ap (λ i. byte_at i n) (omega arith)
high_first (suc k) n (suc j) within = high_first k n j (omega arith) ∙ ap (λ i. byte_at i n) (omega arith)

-- a bit of a byte of a number
bit_of_byte : (n shift b : ℕ) → b < 8 → n / 2 ^ shift % 256 / 2 ^ b % 2 ≡ n / 2 ^ (shift + b) % 2
bit_of_byte n shift b within =
    let m = n / 2 ^ shift in
    sym (bit_at_cat_low (m / 256) 8 (m % 256) b within) ∙ ap (λ v. v / 2 ^ b % 2) (div-add-mod' m 256)
    ∙ ap (λ v. v % 2) (div-div-eq-div-mul n (2 ^ shift) (2 ^ b) ∙ ap (λ p. n / p) (sym (pow-add 2 shift b)))

-- the bits of the eight bytes are the bits of the number
pub byte_bit-number : (n j y : ℕ) → j < 8 → y < 8 → byte_bit (get_or (to_be_bytes w64 n) j 0) y ≡ eqb (n / 2 ^ (63 - (8 * j + y)) % 2) 1
byte_bit-number n j y byte bit =
    let place : 8 * (8 - 1 - j) + (7 - y) ≡ 63 - (8 * j + y) = omega arith in
    ap (λ b. byte_bit b y) (high_first 8 n j byte ∙ byte_at_is (8 - 1 - j) n)
    ∙ ap (λ b. eqb b 1) (bit_of_byte n (8 * (8 - 1 - j)) (7 - y) (omega arith) ∙ ap (λ k. n / 2 ^ k % 2) place)
