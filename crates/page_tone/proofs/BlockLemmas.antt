-- A block of values that are all one value, from the mask of a comparison.
use Rattle.std.proofs.Common.{◌≡◌, ℕ, ◌+◌, ◌-◌, ◌%◌, ◌^◌, ◌<◌, ◌≤◌, IsTrue, Bool, cond, not, eqb, nat_eq, List, map, length, take, replicate, get_or, slice_range, ap, sym, ◌∙◌, arith, w8, eqb-true}
use Rattle.std.proofs.lemmas.Bool.{not-false}
use Rattle.std.proofs.lemmas.List.{length-take-le}
use Rattle.std.proofs.lemmas.List.Edits.{get_or-between, length-between}
use Rattle.std.proofs.lemmas.Simd.{bitmask_splat, none_from_empty_mask}
use lib.Lanes.{mask_l, top, zip2}

pub same_in_row : (values : List ℕ) (from value : ℕ) → from + 64 ≤ length values
    → IsTrue (nat_eq (mask_l (map (top 7) (zip2 (λ a b. cond (not (eqb a b)) 255 0) (take 64 (slice_range values from (from + 64))) (replicate 64 value))) % 2 ^ 64) 0)
    → (x : ℕ) → from ≤ x → x < from + 64 → get_or values x 0 ≡ value
same_in_row values from value room none x above below =
    let block = slice_range values from (from + 64) in
    let long : length block ≡ 64 = omega (arith, length-between values from (from + 64) room) in
    let there : from + (x - from) ≡ x = omega arith in
    let empty : mask_l (map (λ v. not (eqb v value)) (take 64 block)) ≡ 0 =
    sym (bitmask_splat w8 (λ a b. not (eqb a b)) (take 64 block) 64 value (length-take-le 64 block (omega arith)) (omega arith)) ∙ eqb-true _ _ none in
    ap (λ i. get_or values i 0) (sym there) ∙ sym (get_or-between values from (from + 64) (x - from) 0 (omega arith))
    ∙ eqb-true _ _ (not-false _ (none_from_empty_mask (λ v. not (eqb v value)) block 0 64 0 (omega arith) empty (x - from) (omega arith) (omega arith)))
