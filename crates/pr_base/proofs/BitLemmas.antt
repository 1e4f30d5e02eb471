-- Pixels of a packed row after one byte is written, and lemmas that join spans of pixels.
use Rattle.std.proofs.Common.{◌≡◌, ◌≢◌, ℕ, ◌+◌, ◌-◌, ◌*◌, ◌/◌, ◌%◌, ◌^◌, ◌<◌, ◌≤◌, Bool, true, false, List, length, slice_set, bit_and, refl, ap, sym, ◌∙◌, inl, inr, arith, eqb, get_or, get_or-set_same, get_or-set_other, w8}
use Rattle.std.specs.Prelude.{bit_or}
use Rattle.std.proofs.lemmas.Bool.{cases_eq, cases_lt}
use Rattle.std.proofs.lemmas.Nat.Bits.{bit_at_set_same, bit_at_set_other, bit_at_clear_same, bit_at_clear_other}
use Rattle.pr_base.specs.Bits.{bit_at, byte_bit, SetsBits}

-- two indices with the same byte and the same column are equal
pub same_place : (j k : ℕ) → j / 8 ≡ k / 8 → j % 8 ≡ k % 8 → j ≡ k
same_place j k bytes columns = omega arith

-- a pixel of the written byte
pub bit_at-set_here : (bits : List ℕ) (i byte k : ℕ) → i < length bits → k / 8 ≡ i → bit_at (slice_set bits i byte) k ≡ byte_bit byte (k % 8)
bit_at-set_here bits i byte k within here =
    ap (λ b. byte_bit b (k % 8)) (rw here (get_or-set_same bits i byte 0 within))

-- a pixel of any other byte
pub bit_at-set_elsewhere : (bits : List ℕ) (i byte k : ℕ) → k / 8 ≢ i → bit_at (slice_set bits i byte) k ≡ bit_at bits k
bit_at-set_elsewhere bits i byte k other =
    ap (λ b. byte_bit b (k % 8)) (get_or-set_other bits i (k / 8) byte 0 other)

-- set one bit: `byte | 1 << (7 - x)`
pub byte_bit-set_same : (n x : ℕ) → x < 8 → byte_bit (bit_or n (1 * 2 ^ (7 - x) % 256)) x ≡ true
byte_bit-set_same n x within = ap (λ b. eqb b 1) (bit_at_set_same w8 n (7 - x) (omega arith))

pub byte_bit-set_other : (n x y : ℕ) → x < 8 → y < 8 → y ≢ x → byte_bit (bit_or n (1 * 2 ^ (7 - x) % 256)) y ≡ byte_bit n y
byte_bit-set_other n x y x_within y_within other =
    ap (λ b. eqb b 1) (bit_at_set_other w8 n (7 - x) (omega arith) (7 - y) (λ e. other (omega arith)))

-- clear one bit: `byte & !(1 << (7 - x))`
pub byte_bit-clear_same : (n x : ℕ) → x < 8 → byte_bit (bit_and n (255 - 1 * 2 ^ (7 - x) % 256)) x ≡ false
byte_bit-clear_same n x within = ap (λ b. eqb b 1) (bit_at_clear_same w8 n (7 - x) (omega arith))

pub byte_bit-clear_other : (n x y : ℕ) → x < 8 → y < 8 → y ≢ x → byte_bit (bit_and n (255 - 1 * 2 ^ (7 - x) % 256)) y ≡ byte_bit n y
byte_bit-clear_other n x y x_within y_within other =
    ap (λ b. eqb b 1) (bit_at_clear_other w8 n (7 - x) (omega arith) (7 - y) (omega arith) (λ e. other (omega arith)))

-- the pixels of a byte after one of them is set or cleared
pub ruleset byte_bits = (byte_bit-set_same, byte_bit-set_other, byte_bit-clear_same, byte_bit-clear_other)

-- writing a byte that differs in one pixel leaves every other pixel unchanged
pub bit_at-set_others : (bits : List ℕ) (place byte : ℕ) → place < 8 * length bits → ((y : ℕ) → y < 8 → y ≢ place % 8 → byte_bit byte y ≡ byte_bit (get_or bits (place / 8) 0) y) → (k : ℕ) → k ≢ place → bit_at (slice_set bits (place / 8) byte) k ≡ bit_at bits k
bit_at-set_others bits place byte within others k other =
    elim (cases_eq (k / 8) (place / 8)) [
      | inl here ↦ bit_at-set_here bits (place / 8) byte k (omega arith) here
          ∙ others (k % 8) (omega arith) (λ column. other (same_place k place here column))
          ∙ ap (λ i. byte_bit (get_or bits i 0) (k % 8)) (sym here)
      | inr elsewhere ↦ bit_at-set_elsewhere bits (place / 8) byte k elsewhere
    ]

-- an empty span
pub SetsBits_none : (test : ℕ → Bool) (from : ℕ) (bits : List ℕ) → SetsBits test from 0 bits bits
SetsBits_none test from bits =
    record { inside = λ x h. absurd (omega arith); before = λ k h. refl; behind = λ k h. refl }

-- a span extended by one pixel
pub SetsBits_more : (test : ℕ → Bool) (from n : ℕ) (old now new : List ℕ) → SetsBits test from n old now → bit_at new (from + n) ≡ test n → ((k : ℕ) → k ≢ from + n → bit_at new k ≡ bit_at now k) → SetsBits test from (n + 1) old new
SetsBits_more test from n old now new sets here elsewhere = record {
  inside = λ x below.
      elim (cases_eq x n) [
        | inl e ↦ ap (λ m. bit_at new (from + m)) e ∙ here ∙ ap test (sym e)
        | inr other ↦ elsewhere (from + x) (λ e. other (omega arith)) ∙ sets.inside x (let le : x ≤ n = omega arith in omega arith)
      ];
  before = λ k below. elsewhere k (λ e. absurd (omega arith)) ∙ sets.before k below;
  behind = λ k above. elsewhere k (λ e. absurd (omega arith)) ∙ sets.behind k (omega arith);
}

-- a loop that writes a span pixel by pixel
pub ruleset growing = (SetsBits_none, SetsBits_more)

-- two adjacent spans joined
pub SetsBits_join : (test : ℕ → Bool) (from n at m total : ℕ) (old now new : List ℕ) → at ≡ from + n → total ≡ n + m → SetsBits test from n old now → SetsBits (λ x. test (n + x)) at m now new → SetsBits test from total old new
SetsBits_join test from n at m total old now new next whole first second = record {
  inside = λ x below.
      elim (cases_lt x n) [
        | inl early ↦ second.before (from + x) (omega arith) ∙ first.inside x early
        | inr late ↦ let there : n + (x - n) ≡ x = omega arith in
            let place : at + (x - n) ≡ from + x = omega arith in
            ap (λ k. bit_at new k) (sym place) ∙ second.inside (x - n) (omega arith) ∙ ap test there
      ];
  before = λ k below. second.before k (omega arith) ∙ first.before k below;
  behind = λ k above. second.behind k (omega arith) ∙ first.behind k (omega arith);
}

-- a span under another test with the same values
pub SetsBits_same : (test other : ℕ → Bool) (from n : ℕ) (old new : List ℕ) → ((x : ℕ) → x < n → test x ≡ other x) → SetsBits test from n old new → SetsBits other from n old new
SetsBits_same test other from n old new same sets =
    record { inside = λ x below. sets.inside x below ∙ same x below; before = sets.before; behind = sets.behind }

-- a span of one whole written byte
pub SetsBits_byte : (test : ℕ → Bool) (bits : List ℕ) (i byte : ℕ) → i < length bits → ((y : ℕ) → y < 8 → byte_bit byte y ≡ test y) → SetsBits test (8 * i) 8 bits (slice_set bits i byte)
SetsBits_byte test bits i byte within shows = record {
  inside = λ x below.
      let column : (8 * i + x) % 8 ≡ x = omega arith in
      bit_at-set_here bits i byte (8 * i + x) within (omega arith) ∙ ap (λ y. byte_bit byte y) column ∙ shows x below;
  before = λ k below. bit_at-set_elsewhere bits i byte k (λ e. absurd (omega arith));
  behind = λ k above. bit_at-set_elsewhere bits i byte k (λ e. absurd (omega arith));
}

-- for an empty span, neither the start nor the test matters
pub SetsBits_nowhere : (test other : ℕ → Bool) (from at : ℕ) (old new : List ℕ) → SetsBits test from 0 old new → SetsBits other at 0 old new
SetsBits_nowhere test other from at old new sets =
    let same : (k : ℕ) → bit_at new k ≡ bit_at old k =
    λ k. elim (cases_lt k from) [ inl early ↦ sets.before k early | inr late ↦ sets.behind k (omega arith) ] in
    record { inside = λ x h. absurd (omega arith); before = λ k h. same k; behind = λ k h. same k }
