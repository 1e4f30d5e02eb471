-- Marks: the bits of a block in lanes, and adjoining spans of a row.
use Rattle.std.proofs.Common.{◌≡◌, ℕ, zero, suc, ◌+◌, ◌-◌, ◌*◌, ◌/◌, ◌%◌, ◌^◌, ◌<◌, ◌≤◌, Bool, true, false, cond, not, if◌then◌else◌, List, ◌++◌, length, take, map, replicate, eqb, get_or, slice_range, slice_set, bit_and, get_or-set_same, get_or-set_other, inl, inr, refl, ap, sym, ◌∙◌, arith, w8}
use Rattle.std.specs.List.{range_with_len}
use Rattle.std.proofs.lemmas.Bool.{cases_lt, eq-eqb, ne_eqb}
use Rattle.std.proofs.lemmas.List.{get_or-take, get_or-replicate, length-set, length-take}
use Rattle.std.proofs.lemmas.List.Edits.{get_or-between}
use Rattle.std.proofs.lemmas.List.FromFn.{get_or-map-range_with_len, length-map-range_with_len}
use Rattle.std.proofs.lemmas.Nat.{mod_below, pow_pos}
use Rattle.std.proofs.lemmas.Nat.Bits.{and_pow}
use Rattle.std.proofs.lemmas.Simd.{get_or-sel_l, length-sel_l, put_chunk_whole, tops_compared, zip2_of_maps}
use borrow.Rule.Slice.PartMut.{put_mid}
use mir.Val.{bool_byte}
use lib.Lanes.{put_chunk, sel_l, top, zip2}
use Rattle.pr_base.proofs.Parts.{loaded, part_above, part_below, part_here, part_long}
use Rattle.page_layers.specs.Rows.{IsMarked, Marks, bit_is, held}

-- the bit of pixel x of a block, isolated in its lane, and the value that it is compared with
abbrev pub lane_bit : List ℕ → ℕ → ℕ
lane_bit bits x = bit_and (get_or (take 8 bits ++ take 8 bits) (x / 8) 0) (2 ^ (7 - x % 8))

abbrev pub wanted_at : Bool → ℕ → ℕ
wanted_at zeros x = if zeros then 0 else 2 ^ (7 - x % 8)

abbrev lane_test : Bool → List ℕ → ℕ → Bool
lane_test zeros bits x = eqb (lane_bit bits x) (wanted_at zeros x)

digit_is : (zeros : Bool) (digit power : ℕ) → digit < 2 → 0 < power → eqb (digit * power) (if zeros then 0 else power) ≡ (if zeros then not (eqb digit 1) else eqb digit 1)
digit_is true zero power within above = eq-eqb (0 * power) 0 (omega arith)
digit_is true (suc zero) power within above = ne_eqb (1 * power) 0 (λ same. absurd (omega arith))
digit_is true (suc (suc digit)) power within above = absurd (omega arith)
digit_is false zero power within above = ne_eqb (0 * power) power (λ same. absurd (omega arith))
digit_is false (suc zero) power within above = eq-eqb (1 * power) power (omega arith)
digit_is false (suc (suc digit)) power within above = absurd (omega arith)

lane_test_is : (zeros : Bool) (bits : List ℕ) (x : ℕ) → length bits ≡ 8 → x < 64 → lane_test zeros bits x ≡ bit_is zeros bits x
lane_test_is zeros bits x eight within =
    ap (λ byte. eqb (bit_and byte (2 ^ (7 - x % 8))) (wanted_at zeros x)) (loaded 8 bits (x / 8) eight (omega arith))
    ∙ ap (λ n. eqb n (wanted_at zeros x)) (and_pow (get_or bits (x / 8) 0) (7 - x % 8))
    ∙ digit_is zeros (get_or bits (x / 8) 0 / 2 ^ (7 - x % 8) % 2) (2 ^ (7 - x % 8)) (mod_below _ 2 (omega arith)) (pow_pos (7 - x % 8))

abbrev lane_tests : Bool → List ℕ → List Bool
lane_tests zeros bits = map (lane_test zeros bits) (range_with_len 0 64)

-- what 64 marks hold, in lanes
abbrev pub lanes_held : Bool → List ℕ → List ℕ
lanes_held fresh into = if fresh then replicate 64 255 else take 64 into

lane_held : (fresh : Bool) (into : List ℕ) (x : ℕ) → x < 64 → get_or (lanes_held fresh into) x 0 ≡ held fresh into x
lane_held true into x within = get_or-replicate 64 x 255 0 within
lane_held false into x within = get_or-take 64 into x 0 within

all_held : (fresh : Bool) (into : List ℕ) → length into ≡ 64 → length (lanes_held fresh into) ≡ 64
all_held true into whole = omega arith
all_held false into whole = omega (arith, length-take 64 into)

-- the lanes of a block after the comparison
marked : (fresh zeros : Bool) (bits into : List ℕ) (x : ℕ) → length bits ≡ 8 → length into ≡ 64 → x < 64
    → get_or (sel_l (lane_tests zeros bits) (lanes_held fresh into) (replicate 64 0)) x 0 ≡ (if bit_is zeros bits x then held fresh into x else 0)
marked fresh zeros bits into x eight whole within =
    let tests : length (lane_tests zeros bits) ≡ 64 = length-map-range_with_len (lane_test zeros bits) 0 64 in
    get_or-sel_l (lane_tests zeros bits) (lanes_held fresh into) (replicate 64 0) x 0 (omega arith) (omega (arith, all_held fresh into whole)) within
    ∙ ap (λ t. cond t (get_or (lanes_held fresh into) x 0) (get_or (replicate 64 0) x 0)) (get_or-map-range_with_len (lane_test zeros bits) 0 64 x x false within (omega arith) ∙ lane_test_is zeros bits x eight within)
    ∙ ap (λ v. cond (bit_is zeros bits x) v (get_or (replicate 64 0) x 0)) (lane_held fresh into x within)
    ∙ ap (λ v. cond (bit_is zeros bits x) (held fresh into x) v) (get_or-replicate 64 x 0 0 within)

pub IsMarked_block : (fresh zeros : Bool) (bits wanted values into : List ℕ) → length bits ≡ 8 → length into ≡ 64 → wanted ≡ map (wanted_at zeros) (range_with_len 0 64) → values ≡ lanes_held fresh into
    → IsMarked (bit_is zeros bits) (held fresh into) 64 (put_chunk 0 into (sel_l (map (top 7) (zip2 (λ a b. cond (eqb a b) 255 0) (map (lane_bit bits) (range_with_len 0 64)) wanted)) values (replicate 64 0)))
IsMarked_block fresh zeros bits wanted values into eight whole wanted_is values_are =
    let lanes = map (lane_bit bits) (range_with_len 0 64) in
    let tests = tops_compared w8 eqb lanes wanted ∙ zip2_of_maps eqb (lane_bit bits) (wanted_at zeros) (range_with_len 0 64) refl wanted_is in
    let long : length (lane_tests zeros bits) ≡ 64 = length-map-range_with_len (lane_test zeros bits) 0 64 in
    let held_long : length (lanes_held fresh into) ≡ 64 = all_held fresh into whole in
    let all : length (sel_l (lane_tests zeros bits) (lanes_held fresh into) (replicate 64 0)) ≡ length (lane_tests zeros bits) = length-sel_l (lane_tests zeros bits) (lanes_held fresh into) (replicate 64 0) (omega arith) (omega arith) in
    record {
      each = λ x within.
          ap (λ vs. get_or (put_chunk 0 into (sel_l (map (top 7) (zip2 (λ a b. cond (eqb a b) 255 0) lanes wanted)) vs (replicate 64 0))) x 0) values_are
          ∙ ap (λ ms. get_or (put_chunk 0 into (sel_l ms (lanes_held fresh into) (replicate 64 0))) x 0) tests
          ∙ ap (λ list. get_or list x 0) (put_chunk_whole into (sel_l (lane_tests zeros bits) (lanes_held fresh into) (replicate 64 0)) (omega arith))
          ∙ marked fresh zeros bits into x eight whole within;
    }

-- ---- adjoining spans

-- what marks hold goes by their values
held_at : (fresh : Bool) (marks others : List ℕ) (i j : ℕ) → get_or marks i 0 ≡ get_or others j 0 → held fresh marks i ≡ held fresh others j
held_at true marks others i j same = refl
held_at false marks others i j same = same

pub Marks_none : (test : ℕ → Bool) (source : ℕ → ℕ) (from : ℕ) (old : List ℕ) → Marks test source from from old old
Marks_none test source from old = record {
  long = refl;
  inside = λ n above below. absurd (omega arith);
  before = λ n below. refl;
  behind = λ n above. refl;
}

-- a value multiplied by whether it is marked
pub times_bit : (bit : Bool) (value : ℕ) → value * bool_byte bit ≡ (if bit then value else 0)
times_bit true value = omega arith
times_bit false value = omega arith

pub Marks_more : (fresh : Bool) (test : ℕ → Bool) (from j value : ℕ) (old into : List ℕ) → from ≤ j → j < length into → value ≡ (if test j then held fresh into j else 0) → Marks test (held fresh old) from j old into → Marks test (held fresh old) from (j + 1) old (slice_set into j value)
Marks_more fresh test from j value old into front within value_is has = record {
  long = length-set into j value ∙ has.long;
  inside = λ n above below.
      elim (cases_lt n j) [
        | inl less ↦ get_or-set_other into j n value 0 (λ same. absurd (omega arith)) ∙ has.inside n above less
        | inr more ↦
            let same : n ≡ j = omega arith in
            ap (λ k. get_or (slice_set into j value) k 0) same ∙ get_or-set_same into j value 0 within ∙ value_is
            ∙ ap (λ v. if test j then v else 0) (held_at fresh into old j j (has.behind j (omega arith))) ∙ sym (ap (λ k. if test k then held fresh old k else 0) same)
      ];
  before = λ n below. get_or-set_other into j n value 0 (λ same. absurd (omega arith)) ∙ has.before n below;
  behind = λ n above. get_or-set_other into j n value 0 (λ same. absurd (omega arith)) ∙ has.behind n (omega arith);
}

pub Marks_join : (fresh : Bool) (test : ℕ → Bool) (from mid to : ℕ) (old part new : List ℕ) → from ≤ mid → mid ≤ to → Marks test (held fresh old) from mid old part → Marks test (held fresh part) mid to part new → Marks test (held fresh old) from to old new
Marks_join fresh test from mid to old part new front rest first second = record {
  long = second.long ∙ first.long;
  inside = λ n above below.
      elim (cases_lt n mid) [
        | inl less ↦ second.before n less ∙ first.inside n above less
        | inr more ↦ second.inside n more below ∙ ap (λ v. if test n then v else 0) (held_at fresh part old n n (first.behind n more))
      ];
  before = λ n below. second.before n (omega arith) ∙ first.before n below;
  behind = λ n above. second.behind n above ∙ first.behind n (omega arith);
}

pub IsMarked_whole : (test : ℕ → Bool) (source : ℕ → ℕ) (all : ℕ) (old new : List ℕ) → Marks test source 0 all old new → IsMarked test source all new
IsMarked_whole test source all old new has = record { each = λ n below. has.inside n (omega arith) below }

-- the bits of a byte and of those after it, read from a part of the row
bit_of_part : (zeros : Bool) (row : List ℕ) (byte end x place : ℕ) → byte + 8 ≤ end → x < 64 → place ≡ 8 * byte + x → byte + 8 ≡ end → bit_is zeros (slice_range row byte end) x ≡ bit_is zeros row place
bit_of_part zeros row byte end x place room within is eight =
    let there : byte + x / 8 ≡ place / 8 = omega arith in
    let column : x % 8 ≡ place % 8 = omega arith in
    ap (λ n. if zeros then not (eqb (n / 2 ^ (7 - x % 8) % 2) 1) else eqb (n / 2 ^ (7 - x % 8) % 2) 1) (get_or-between row byte end (x / 8) 0 (omega arith) ∙ ap (λ k. get_or row k 0) there)
    ∙ ap (λ k. if zeros then not (eqb (get_or row (place / 8) 0 / 2 ^ (7 - k) % 2) 1) else eqb (get_or row (place / 8) 0 / 2 ^ (7 - k) % 2) 1) column

-- a block after a span
pub Marks_block : (fresh zeros : Bool) (row : List ℕ) (first from at to cut size byte last : ℕ) (old into part : List ℕ) → from ≤ at → to ≡ at + 64 → to ≤ length into → cut ≡ to → size ≡ 64 → first + at ≡ 8 * byte → last ≡ byte + 8
    → length part ≡ 64 → IsMarked (bit_is zeros (slice_range row byte last)) (held fresh (slice_range into at cut)) 64 part
    → Marks (λ x. bit_is zeros row (first + x)) (held fresh old) from at old into → Marks (λ x. bit_is zeros row (first + x)) (held fresh old) from to old (put_mid at size into part)
Marks_block fresh zeros row first from at to cut size byte last old into part front end room cut_is size_is there last_is long block has = record {
  long = part_long at size into part (omega arith) (omega arith) ∙ has.long;
  inside = λ n above below.
      elim (cases_lt n at) [
        | inl less ↦ part_below at size into part n (omega arith) less ∙ has.inside n above less
        | inr more ↦
            let back : at + (n - at) ≡ n = omega arith in
            part_here at size into part n (omega arith) (omega arith) more (omega arith) ∙ block.each (n - at) (omega arith)
            ∙ ap (λ t. if t then held fresh (slice_range into at cut) (n - at) else 0) (bit_of_part zeros row byte last (n - at) (first + n) (omega arith) (omega arith) (omega arith) (omega arith))
            ∙ ap (λ v. if bit_is zeros row (first + n) then v else 0)
            (held_at fresh (slice_range into at cut) old (n - at) n (get_or-between into at cut (n - at) 0 (omega arith) ∙ ap (λ k. get_or into k 0) back ∙ has.behind n more))
      ];
  before = λ n below. part_below at size into part n (omega arith) (omega arith) ∙ has.before n below;
  behind = λ n above. part_above at size into part n (omega arith) (omega arith) (omega arith) ∙ has.behind n (omega arith);
}
