-- Sixty-four comparisons of values with thresholds, made as one mask, and blocks without ink.
use Rattle.std.proofs.Common.{◌≡◌, ℕ, ◌-◌, ◌/◌, ◌%◌, ◌^◌, ◌<◌, IsTrue, Bool, false, cond, not, eqb, nat_eq, nat_lt, List, ◌++◌, length, map, take, replicate, get_or, refl, sym, ap, ◌∙◌, arith, w8, w64, eqb-true, le-ltb}
use Rattle.std.proofs.Math.Nat.{zero-div}
use Rattle.std.proofs.lemmas.Bool.{not-false}
use Rattle.std.proofs.lemmas.List.{get_or-replicate, length-take-le}
use Rattle.std.proofs.lemmas.Simd.{bitmask_splat, none_from_empty_mask}
use Rattle.std.specs.Int.{to_le_bytes}
use lib.Lanes.{mask_l, top, zip2}
use Rattle.pr_base.specs.Bits.{bit_at, byte_bit}
use Rattle.pr_base.proofs.Blocks.{reversed_lanes, shown_by_mask, top_of_byte}
use Rattle.pr_base.proofs.Parts.{loaded}
use Rattle.scr_tile.specs.Tile.{tile_bit}

-- the result of lane x of the comparison of two vectors, before the lanes of each byte are reversed
abbrev pub lane_test : List ℕ → List ℕ → ℕ → Bool
lane_test values thresholds x =
    top 7 (cond (nat_lt (get_or (take 64 thresholds ++ take 64 thresholds) x 0) (get_or (take 64 values ++ take 64 values) x 0)) 255 0)

pub lane_test_is : (values thresholds : List ℕ) (x : ℕ) → length values ≡ 64 → length thresholds ≡ 64 → x < 64 → lane_test values thresholds x ≡ tile_bit (get_or values x 0) (get_or thresholds x 0)
lane_test_is values thresholds x whole_values whole_thresholds within =
    top_of_byte _ ∙ ap (λ t. nat_lt t (get_or (take 64 values ++ take 64 values) x 0)) (loaded 64 thresholds x whole_thresholds within)
    ∙ ap (λ v. nat_lt (get_or thresholds x 0) v) (loaded 64 values x whole_values within)

-- the eight bytes of the mask, in little-endian order, hold the pixels in order
pub mask_shows : (values thresholds : List ℕ) (x : ℕ) → length values ≡ 64 → length thresholds ≡ 64 → x < 64 → bit_at (to_le_bytes w64 (mask_l (reversed_lanes (lane_test values thresholds)) % 2 ^ 64)) x ≡ tile_bit (get_or values x 0) (get_or thresholds x 0)
mask_shows values thresholds x whole_values whole_thresholds within =
    shown_by_mask (lane_test values thresholds) x within ∙ lane_test_is values thresholds x whole_values whole_thresholds within

-- where no lane differs from 0, no value does
pub bare_by_mask : (values : List ℕ) (x : ℕ) → length values ≡ 64
    → IsTrue (nat_eq (mask_l (map (top 7) (zip2 (λ a b. cond (not (eqb a b)) 255 0) (take 64 values) (replicate 64 0))) % 2 ^ 64) 0)
    → x < 64 → get_or values x 0 ≡ 0
bare_by_mask values x whole none below =
    let empty : mask_l (map (λ v. not (eqb v 0)) (take 64 values)) ≡ 0 =
    sym (bitmask_splat w8 (λ a b. not (eqb a b)) (take 64 values) 64 0 (length-take-le 64 values (omega arith)) (omega arith)) ∙ eqb-true _ _ none in
    eqb-true _ _ (not-false _ (none_from_empty_mask (λ v. not (eqb v 0)) values 0 64 0 (omega arith) empty x (omega arith) below))

-- a value of 0 is above no threshold
none_above : (threshold : ℕ) → nat_lt threshold 0 ≡ false
none_above threshold = le-ltb threshold 0 (omega arith)

no_bit : (place : ℕ) → byte_bit 0 place ≡ false
no_bit place = ap (λ n. eqb (n % 2) 1) (zero-div (2 ^ (7 - place)))

-- eight bytes of 0 are the pixels of a block without ink
pub bare_shows : (values thresholds : List ℕ) (x : ℕ) → ((k : ℕ) → k < 64 → get_or values k 0 ≡ 0) → x < 64 → bit_at (replicate 8 0) x ≡ tile_bit (get_or values x 0) (get_or thresholds x 0)
bare_shows values thresholds x bare within =
    ap (λ byte. byte_bit byte (x % 8)) (get_or-replicate 8 (x / 8) 0 0 (omega arith)) ∙ no_bit (x % 8)
    ∙ sym (none_above (get_or thresholds x 0)) ∙ ap (λ v. nat_lt (get_or thresholds x 0) v) (sym (bare x within))
