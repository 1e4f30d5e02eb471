-- The columns of a key.
use Rattle.std.proofs.Common.{◌≡◌, ℕ, ◌+◌, ◌*◌, ◌<◌, ◌≤◌, Bool, true, false, cond, ◌&&◌, List, refl, arith, inl, inr}
use Rattle.std.specs.Prelude.{◌↔◌, ◌==◌}
use Rattle.std.proofs.Math.Nat.{le-div_iff_mul-le, mul-le-mul_right}
use Rattle.std.proofs.lemmas.Grind.{div_ceil_times}
use Rattle.std.proofs.lemmas.Bool.{cases_lt}
use Rattle.std.proofs.lemmas.Bool.Decides.{nat_tests}
use Rattle.pr_base.specs.Bits.{bit_at}
use Rattle.ink_keys.specs.Keys.{key_of, first_column, key_dots, dots_between, KeyHasColumns}
use Rattle.ink_keys.proofs.Ranges.{sum-within}

-- a column is at or past the first one of key k exactly if its key is at least k
pub reached : (width keys k x : ℕ) → 0 < width → 0 < keys → (first_column width keys k ≤ x) ↔ (k ≤ key_of width keys x)
unfolding first_column
reached width keys k x wide some =
    let ceil = div_ceil_times (k * width) keys some in
    let down = le-div_iff_mul-le {k = width} {x = k} {y = x * keys} wide in (
      λ from. down.1 (let scaled : first_column width keys k * keys ≤ x * keys = mul-le-mul_right keys from in let low = ceil.0 in omega arith),
      λ key. elim (cases_lt x (first_column width keys k)) [
        | inl above ↦ absurd (let next : x + 1 ≤ first_column width keys k = omega arith in
            let scaled : (x + 1) * keys ≤ first_column width keys k * keys = mul-le-mul_right keys next in
            let least : k * width ≤ x * keys = down.0 key in
            let high = ceil.1 in omega arith)
        | inr from ↦ from
      ],
    )

pub has_columns : (width keys k x : ℕ) → 0 < width → 0 < keys → KeyHasColumns width keys k x
has_columns width keys k x wide some =
    let low = reached width keys k x wide some in
    let high = reached width keys (k + 1) x wide some in (
      λ is. (
        low.1 (omega arith),
        elim (cases_lt x (first_column width keys (k + 1))) [
          | inl below ↦ below
          | inr from ↦ absurd (let least = high.0 from in omega arith)
        ],
      ),
      λ (from, below). elim (cases_lt (key_of width keys x) (k + 1)) [
        | inl most ↦ let least = low.0 from in omega arith
        | inr least ↦ absurd (let other = high.1 least in omega arith)
      ],
    )

-- first columns ascend, and the one after the last key is the width
pub first-within : (width keys k : ℕ) → 0 < keys → k ≤ keys → first_column width keys k ≤ width
unfolding first_column
first-within width keys k some within =
    let ceil = div_ceil_times (k * width) keys some in
    elim (cases_lt width (first_column width keys k)) [
      | inl above ↦ absurd (let next : width + 1 ≤ first_column width keys k = omega arith in
          let scaled : (width + 1) * keys ≤ first_column width keys k * keys = mul-le-mul_right keys next in
          let most : k * width ≤ keys * width = mul-le-mul_right width within in
          let high = ceil.1 in omega arith)
      | inr from ↦ from
    ]

pub first-grows : (width keys k : ℕ) → 0 < keys → first_column width keys k ≤ first_column width keys (k + 1)
unfolding first_column
first-grows width keys k some =
    let own = div_ceil_times (k * width) keys some in
    let after = div_ceil_times ((k + 1) * width) keys some in
    elim (cases_lt (first_column width keys (k + 1)) (first_column width keys k)) [
      | inl above ↦ absurd (let next : first_column width keys (k + 1) + 1 ≤ first_column width keys k = omega arith in
          let scaled : (first_column width keys (k + 1) + 1) * keys ≤ first_column width keys k * keys = mul-le-mul_right keys next in
          let low = after.0 in
          let high = own.1 in omega arith)
      | inr from ↦ from
    ]

abbrev number : Bool → ℕ
number bit = cond bit 1 0

-- the dots of a key are those from its first column to before that of the next key
pub key-dots-between : (width keys k : ℕ) (row : List ℕ) → 0 < width → 0 < keys → k < keys
    → key_dots width keys row k ≡ dots_between row (first_column width keys k) (first_column width keys (k + 1))
unfolding key_dots dots_between
key-dots-between width keys k row wide some within =
    sum-within (λ x. cond (bit_at row x && (key_of width keys x == k)) 1 0) (λ x. cond (bit_at row x) 1 0) width
    (first_column width keys k) (first_column width keys (k + 1)) (first-grows width keys k some) (first-within width keys (k + 1) some (omega arith))
    (λ x below. none (bit_at row x) (key_of width keys x) k (λ is. (let from = ((has_columns width keys k x wide some).0 is).0 in omega arith)))
    (λ x from below. one (bit_at row x) (key_of width keys x) k ((has_columns width keys k x wide some).1 (from, below)))
    (λ x from below. none (bit_at row x) (key_of width keys x) k (λ is. (let less = ((has_columns width keys k x wide some).0 is).1 in omega arith)))
  where
    none : (bit : Bool) (key k : ℕ) → (key ≡ k → ⊥) → number (bit && (key == k)) ≡ 0
    none true key k other = grind (arith, nat_tests)
    none false key k other = refl

    one : (bit : Bool) (key k : ℕ) → key ≡ k → number (bit && (key == k)) ≡ number bit
    one true key k same = grind (arith, nat_tests)
    one false key k same = refl
