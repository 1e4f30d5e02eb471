-- The bits of one row in sixty-four columns, compared as one mask.
use Rattle.std.proofs.Common.{◌≡◌, ℕ, zero, suc, ◌*◌, ◌/◌, ◌%◌, ◌^◌, ◌<◌, Bool, cond, List, ◌++◌, length, take, eqb, bit_and, get_or, refl, ap, ◌∙◌, arith, w64}
use Rattle.std.specs.Int.{to_le_bytes}
use Rattle.std.proofs.lemmas.Bool.Decides.{nat_tests}
use Rattle.std.proofs.lemmas.Nat.{mod_below, pow_pos}
use Rattle.std.proofs.lemmas.Nat.Bits.{and_pow}
use lib.Lanes.{mask_l, top}
use Rattle.pr_base.specs.Bits.{bit_at}
use Rattle.pr_base.proofs.Blocks.{reversed_lanes, shown_by_mask, top_of_byte}
use Rattle.pr_base.proofs.Parts.{loaded}
use Rattle.scr_diffuse.specs.Block.{bit_of}

-- the mask of the bit of a row
abbrev pub alone : ℕ → ℕ
alone row = 1 * 2 ^ row % 256

-- the result of the comparison in lane x of the columns, before the lanes of each byte are reversed
abbrev pub lane_test : ℕ → List ℕ → ℕ → Bool
lane_test row columns x = top 7 (cond (eqb (bit_and (get_or (take 64 columns ++ take 64 columns) x 0) (alone row)) (alone row)) 255 0)

-- the masks of eight rows are the powers of two
alone_is : (row : ℕ) → row < 8 → alone row ≡ 2 ^ row
alone_is zero within = refl
alone_is (suc zero) within = refl
alone_is (suc (suc zero)) within = refl
alone_is (suc (suc (suc zero))) within = refl
alone_is (suc (suc (suc (suc zero)))) within = refl
alone_is (suc (suc (suc (suc (suc zero))))) within = refl
alone_is (suc (suc (suc (suc (suc (suc zero)))))) within = refl
alone_is (suc (suc (suc (suc (suc (suc (suc zero))))))) within = refl
alone_is (suc (suc (suc (suc (suc (suc (suc (suc row)))))))) within = absurd (omega arith)

digit_is : (d p : ℕ) → d < 2 → 0 < p → eqb (d * p) p ≡ eqb d 1
digit_is zero p digit some = grind (arith, nat_tests)
digit_is (suc zero) p digit some = grind (arith, nat_tests)
digit_is (suc (suc d)) p digit some = absurd (omega arith)

lane_test_is : (row : ℕ) (columns : List ℕ) (x : ℕ) → row < 8 → length columns ≡ 64 → x < 64
    → lane_test row columns x ≡ bit_of (get_or columns x 0) row
lane_test_is row columns x lanes whole within =
    top_of_byte _ ∙ ap (λ n. eqb (bit_and n (alone row)) (alone row)) (loaded 64 columns x whole within)
    ∙ ap (λ m. eqb (bit_and (get_or columns x 0) m) m) (alone_is row lanes)
    ∙ ap (λ n. eqb n (2 ^ row)) (and_pow (get_or columns x 0) row)
    ∙ digit_is (get_or columns x 0 / 2 ^ row % 2) (2 ^ row) (mod_below _ 2 (omega arith)) (pow_pos row)

-- the eight bytes of the mask, in little-endian order, hold the pixels in order
pub dots_show : (row : ℕ) (columns : List ℕ) (x : ℕ) → row < 8 → length columns ≡ 64 → x < 64
    → bit_at (to_le_bytes w64 (mask_l (reversed_lanes (lane_test row columns)) % 2 ^ 64)) x
    ≡ bit_of (get_or columns x 0) row
dots_show row columns x lanes whole within =
    shown_by_mask (lane_test row columns) x within ∙ lane_test_is row columns x lanes whole within
