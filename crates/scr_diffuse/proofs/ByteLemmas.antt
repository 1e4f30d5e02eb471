-- Eight comparisons in one byte, the first in the highest bit.
use Rattle.std.proofs.Common.{◌≡◌, ℕ, ◌-◌, ◌/◌, ◌%◌, ◌^◌, ◌<◌, Bool, false, cond, ℤ, pos, FitsSigned, to_z, of_z, List, ◌++◌, length, take, map, eqb, get_or, ap, sym, subst, ◌∙◌, arith, w16}
use Rattle.std.specs.Int.Signed.{le_z}
use Rattle.std.specs.List.{range_with_len}
use Rattle.std.proofs.lemmas.Int.{to_z-of_z}
use Rattle.std.proofs.lemmas.List.{get_or_append_left, get_or-map, get_or-take, length-map, length-take}
use Rattle.std.proofs.lemmas.List.FromFn.{get_or-map-range_with_len, length-map-range_with_len}
use Rattle.std.proofs.lemmas.Simd.{bit_mask_l, mask_l-mod, mask_l-lt}
use lib.Lanes.{mask_l, top}
use Rattle.scr_diffuse.specs.Diffusion.{prints}
use Rattle.scr_diffuse.specs.Passes.{number_at}
use Rattle.pr_base.proofs.Blocks.{one_if, top_of_word}

-- what lane x of a loaded vector holds, before it is reversed
abbrev pub lane : List ℤ → ℕ → ℕ
lane numbers x = get_or (map (of_z w16) (take 8 numbers) ++ map (of_z w16) (take 8 numbers)) x 0

-- the result of the comparison in that lane
abbrev pub lane_test : List ℤ → ℕ → Bool
lane_test numbers x = top 15 (cond (le_z (pos 128) (to_z w16 (lane numbers x))) 65535 0)

-- the lanes of the comparison of a reversed vector
abbrev pub lane_tests : List ℤ → List Bool
lane_tests numbers = map (λ i. lane_test numbers (7 - i)) (range_with_len 0 8)

-- a lane of a vector that was loaded whole and appended to itself
loaded : (numbers : List ℤ) (x : ℕ) → length numbers ≡ 8 → x < 8
    → lane numbers x ≡ of_z w16 (number_at numbers x)
loaded numbers x whole within =
    let count : length (take 8 numbers) ≡ 8 = omega (arith, length-take 8 numbers) in
    get_or_append_left (map (of_z w16) (take 8 numbers)) (map (of_z w16) (take 8 numbers)) 0 x (omega (arith, length-map (take 8 numbers) (of_z w16)))
    ∙ get_or-map (of_z w16) (take 8 numbers) x (pos 0) 0 (omega arith) ∙ ap (of_z w16) (get_or-take 8 numbers x (pos 0) within)

lane_test_is : (numbers : List ℤ) (x : ℕ) → length numbers ≡ 8 → x < 8 → FitsSigned w16 (number_at numbers x)
    → lane_test numbers x ≡ prints (number_at numbers x)
lane_test_is numbers x whole within fits =
    top_of_word _ ∙ ap (λ n. le_z (pos 128) (to_z w16 n)) (loaded numbers x whole within)
    ∙ ap (le_z (pos 128)) (to_z-of_z w16 (number_at numbers x) fits)

-- the mask is a byte
pub mask-fits : (numbers : List ℤ) → mask_l (lane_tests numbers) % 2 ^ 64 < 256
mask-fits numbers =
    let count : length (lane_tests numbers) ≡ 8 = length-map-range_with_len (λ i. lane_test numbers (7 - i)) 0 8 in
    let below : mask_l (lane_tests numbers) < 2 ^ length (lane_tests numbers) = mask_l-lt (lane_tests numbers) in
    let byte : mask_l (lane_tests numbers) < 2 ^ 8 = subst (λ (n : ℕ). mask_l (lane_tests numbers) < 2 ^ n) count below in
    subst (λ (n : ℕ). n < 256) (sym (mask_l-mod (lane_tests numbers) 64 (omega arith))) byte

pub bit-mask : (numbers : List ℤ) (x : ℕ) → length numbers ≡ 8 → x < 8 → FitsSigned w16 (number_at numbers x)
    → eqb (mask_l (lane_tests numbers) % 2 ^ 64 / 2 ^ (7 - x) % 2) 1 ≡ prints (number_at numbers x)
bit-mask numbers x whole within fits =
    let back : 7 - (7 - x) ≡ x = omega arith in
    ap (λ m. eqb (m / 2 ^ (7 - x) % 2) 1) (mask_l-mod (lane_tests numbers) 64 (omega (arith, length-map-range_with_len (λ i. lane_test numbers (7 - i)) 0 8)))
    ∙ ap (λ b. eqb b 1) (bit_mask_l (lane_tests numbers) (7 - x)) ∙ one_if _
    ∙ get_or-map-range_with_len (λ i. lane_test numbers (7 - i)) 0 8 (7 - x) (7 - x) false (omega arith) (omega arith)
    ∙ ap (λ y. lane_test numbers y) back ∙ lane_test_is numbers x whole within fits
