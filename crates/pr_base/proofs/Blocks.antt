-- Sixty-four tests as one 64-bit mask: its eight bytes hold the pixels in order, and are written to a packed
-- row.
use Rattle.std.proofs.Common.{◌≡◌, ℕ, zero, suc, ◌+◌, ◌-◌, ◌*◌, ◌/◌, ◌%◌, ◌^◌, ◌<◌, ◌≤◌, Bool, true, false, cond, List, length, map, eqb, get_or, refl, ap, sym, ◌∙◌, arith, w64}
use Rattle.std.specs.Int.{byte_at, bytes_high_first, bytes_low_first, to_be_bytes, to_le_bytes}
use Rattle.std.specs.List.{range_with_len}
use Rattle.std.proofs.lemmas.List.FromFn.{get_or-map-range_with_len, length-map-range_with_len}
use Rattle.std.proofs.lemmas.Simd.{bit_mask_l, mask_l-mod}
use borrow.Rule.Slice.PartMut.{put_mid}
use lib.Lanes.{mask_l, top}
use Rattle.pr_base.specs.Bits.{bit_at, byte_bit, SetsBits}
use Rattle.pr_base.proofs.Parts.{part_above, part_below, part_here}
use Rattle.pr_base.proofs.Words.{byte_bit-number}

-- ---- the lanes of a comparison

-- the highest bit of a lane of a byte, and of a word
pub top_of_byte : (b : Bool) → top 7 (cond b 255 0) ≡ b
top_of_byte true = refl
top_of_byte false = refl

pub top_of_word : (b : Bool) → top 15 (cond b 65535 0) ≡ b
top_of_word true = refl
top_of_word false = refl

pub one_if : (b : Bool) → eqb (cond b 1 0) 1 ≡ b
one_if true = refl
one_if false = refl

-- the tests of sixty-four pixels, with the lanes of each byte reversed
abbrev pub reversed_lanes : (ℕ → Bool) → List Bool
reversed_lanes test = map (λ i. test (8 * (i / 8) + 7 - i % 8)) (range_with_len 0 64)

-- ---- the bytes of the mask

-- a byte of a number in little-endian order is one of its bytes in big-endian order
low_first : (i k n j : ℕ) → j < k → get_or (bytes_low_first i k n) j 0 ≡ byte_at (i + j) n
low_first i zero n j within = absurd (omega arith)
low_first i (suc k) n zero within = ap (λ m. byte_at m n) (omega arith)
low_first i (suc k) n (suc j) within = low_first (suc i) k n j (omega arith) ∙ ap (λ m. byte_at m n) (omega arith)

high_first : (k n j : ℕ) → j < k → get_or (bytes_high_first k n) j 0 ≡ byte_at (k - 1 - j) n
high_first zero n j within = absurd (omega arith)
high_first (suc k) n zero within = ap (λ i. byte_at i n) (omega arith)
high_first (suc k) n (suc j) within = high_first k n j (omega arith) ∙ ap (λ i. byte_at i n) (omega arith)

low_is_high : (n j : ℕ) → j < 8 → get_or (to_le_bytes w64 n) j 0 ≡ get_or (to_be_bytes w64 n) (7 - j) 0
low_is_high n j within =
    let place : 8 - 1 - (7 - j) ≡ 0 + j = omega arith in
    low_first 0 8 n j within ∙ sym (high_first 8 n (7 - j) (omega arith) ∙ ap (λ i. byte_at i n) place)

-- the eight bytes of the mask, in little-endian order, hold the pixels in order
pub shown_by_mask : (test : ℕ → Bool) (x : ℕ) → x < 64
    → bit_at (to_le_bytes w64 (mask_l (reversed_lanes test) % 2 ^ 64)) x ≡ test x
shown_by_mask test x within =
    let at = λ (i : ℕ). test (8 * (i / 8) + 7 - i % 8) in
    let mask = mask_l (reversed_lanes test) in
    let lane = 63 - (8 * (7 - x / 8) + x % 8) in
    let back : 8 * (lane / 8) + 7 - lane % 8 ≡ x = omega arith in
    ap (λ byte. byte_bit byte (x % 8)) (low_is_high (mask % 2 ^ 64) (x / 8) (omega arith))
    ∙ byte_bit-number (mask % 2 ^ 64) (7 - x / 8) (x % 8) (omega arith) (omega arith)
    ∙ ap (λ m. eqb (m / 2 ^ lane % 2) 1) (mask_l-mod (reversed_lanes test) 64 (omega (arith, length-map-range_with_len at 0 64)))
    ∙ ap (λ b. eqb b 1) (bit_mask_l (reversed_lanes test) lane) ∙ one_if _
    ∙ get_or-map-range_with_len at 0 64 lane lane false (omega arith) (omega arith)
    ∙ ap test back

-- ---- writing a block

-- the pixels of eight bytes that were written to a packed row
pub SetsBits_block : (test : ℕ → Bool) (bits bytes : List ℕ) (first count : ℕ) → count ≡ 8
    → first + 8 ≤ length bits → length bytes ≡ 8 → ((x : ℕ) → x < 64 → bit_at bytes x ≡ test x)
    → SetsBits test (8 * first) 64 bits (put_mid first count bits bytes)
SetsBits_block test bits bytes first count eight room whole shows = record {
  inside = λ x below.
      let byte : (8 * first + x) / 8 - first ≡ x / 8 = omega arith in
      let column : (8 * first + x) % 8 ≡ x % 8 = omega arith in
      ap (λ b. byte_bit b ((8 * first + x) % 8)) (part_here first count bits bytes ((8 * first + x) / 8) (omega arith) (omega arith) (omega arith) (omega arith))
      ∙ ap (λ j. byte_bit (get_or bytes j 0) ((8 * first + x) % 8)) byte ∙ ap (λ y. byte_bit (get_or bytes (x / 8) 0) y) column
      ∙ shows x below;
  before = λ k below. ap (λ b. byte_bit b (k % 8)) (part_below first count bits bytes (k / 8) (omega arith) (omega arith));
  behind = λ k above. ap (λ b. byte_bit b (k % 8)) (part_above first count bits bytes (k / 8) (omega arith) (omega arith) (omega arith));
}
