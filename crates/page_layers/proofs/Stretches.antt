-- Runs of one value, one after the other, and blocks of samples.
use Rattle.std.proofs.Common.{◌≡◌, ℕ, ◌+◌, ◌-◌, ◌*◌, ◌/◌, ◌<◌, ◌≤◌, List, ◌++◌, length, take, drop, map, get_or, replicate, slice_range, inl, inr, sym, ap, ◌∙◌, arith}
use Rattle.std.specs.List.{range_with_len}
use Rattle.std.proofs.lemmas.Bool.{cases_lt}
use Rattle.std.proofs.lemmas.List.{get_or-append_right, get_or-replicate, get_or-take, get_or_append_left, length-drop, length-replicate, length-take, length-take-le}
use Rattle.std.proofs.lemmas.List.Edits.{get_or-between}
use Rattle.std.proofs.lemmas.List.FromFn.{get_or-map-range_with_len, length-map-range_with_len}
use Rattle.std.proofs.lemmas.Nat.{div_below, div-mul-add}
use Rattle.std.proofs.Math.Nat.{mul-add-div}
use Rattle.std.proofs.lemmas.Simd.{put_chunk_whole}
use lib.Lanes.{put_chunk}
use borrow.Rule.Slice.PartMut.{put_mid}
use Rattle.pr_base.proofs.Parts.{loaded, part_below, part_here}
use Rattle.page_layers.specs.Rows.{IsStretched}

-- run n, or its start, after the runs before it
pub IsStretched-run : (source : List ℕ) (step scale n count cut size value : ℕ) (into part : List ℕ) → IsStretched source step scale (scale * n) into → size ≤ scale → count ≡ scale * n + size
    → count ≤ length into → part ≡ replicate size value → value ≡ get_or source (step * n) 0 → IsStretched source step scale count (put_mid (scale * n) cut into part)
IsStretched-run source step scale n count cut size value into part has small whole room run value_is = record {
  each = λ j below.
      elim (cases_lt j (scale * n)) [
        | inl before ↦ get_or_append_left (take (scale * n) into) _ 0 j (omega (arith, front)) ∙ get_or-take (scale * n) into j 0 before ∙ has.each j before
        | inr behind ↦
            let inside : j - scale * n < size = omega arith in
            let place : n * scale + (j - scale * n) ≡ j = omega arith in
            let strip : j / scale ≡ n = ap (λ k. k / scale) (sym place) ∙ div-mul-add n scale (j - scale * n) (omega arith) in
            get_or-append_right (take (scale * n) into) _ (scale * n) j 0 front behind
            ∙ get_or_append_left part _ 0 (j - scale * n) (omega (arith, long))
            ∙ ap (λ list. get_or list (j - scale * n) 0) run
            ∙ get_or-replicate size (j - scale * n) value 0 inside
            ∙ value_is
            ∙ ap (λ k. get_or source (step * k) 0) (sym strip)
      ];
}
  where
    front : length (take (scale * n) into) ≡ scale * n
    front = length-take-le (scale * n) into (omega arith)

    long : length part ≡ size
    long = ap length run ∙ length-replicate size value

-- no value is written yet
pub IsStretched_none : (source : List ℕ) (step scale count : ℕ) (into : List ℕ) → count ≡ 0 → IsStretched source step scale count into
IsStretched_none source step scale count into none = record { each = λ j below. absurd (omega arith) }

-- a sample of a block of sixteen pixels that was loaded whole and appended to itself
abbrev pub sample_in : List ℕ → ℕ → ℕ → ℕ
sample_in pixels scale x = get_or (take 64 pixels ++ take 64 pixels) (4 * (x / scale)) 0

-- block k after the blocks before it
pub IsStretched-block : (source : List ℕ) (scale size k at to count cut : ℕ) (into : List ℕ) → IsStretched source 4 scale at into → 0 < scale → at ≡ scale * (16 * k) → size ≡ scale * 16 → to ≡ at + size → count ≡ at + size → cut ≡ size
    → count ≤ length into → 64 * k + 64 ≤ length source
    → IsStretched source 4 scale count (put_mid at cut into (put_chunk 0 (slice_range into at to) (map (sample_in (slice_range source (64 * k) (64 * k + 64)) scale) (range_with_len 0 size))))
IsStretched-block source scale size k at to count cut into has above at_is size_is to_is count_is cut_is room enough =
    let pixels = slice_range source (64 * k) (64 * k + 64) in
    let lanes = map (sample_in pixels scale) (range_with_len 0 size) in
    let part = put_chunk 0 (slice_range into at to) lanes in
    let lanes_long : length lanes ≡ size = length-map-range_with_len (sample_in pixels scale) 0 size in
    let pixels_long : length pixels ≡ 64 = omega (arith, length-take (64 * k + 64 - 64 * k) (drop (64 * k) source), length-drop (64 * k) source) in
    let slice_long : length (slice_range into at to) ≡ size = omega (arith, length-take (to - at) (drop at into), length-drop at into) in
    let part_is : part ≡ lanes = put_chunk_whole (slice_range into at to) lanes (slice_long ∙ sym lanes_long) in
    let part_long : length part ≡ cut = ap length part_is ∙ lanes_long ∙ sym cut_is in
    record {
      each = λ j below.
          elim (cases_lt j at) [
            | inl before ↦ part_below at cut into part j (omega arith) before ∙ has.each j before
            | inr behind ↦
                let x = j - at in
                let inside : x < size = omega arith in
                let pixel : x / scale < 16 = div_below x scale 16 above (omega arith) in
                let whole : scale * (16 * k) + x ≡ j = omega arith in
                let column : 16 * k + x / scale ≡ j / scale = sym (mul-add-div above (16 * k) x) ∙ ap (λ n. n / scale) whole in
                let place : 64 * k + 4 * (x / scale) ≡ 4 * (j / scale) = omega arith in
                part_here at cut into part j (omega arith) part_long behind (omega arith)
                ∙ ap (λ list. get_or list x 0) part_is
                ∙ get_or-map-range_with_len (sample_in pixels scale) 0 size x x 0 inside (omega arith)
                ∙ loaded 64 pixels (4 * (x / scale)) pixels_long (omega arith)
                ∙ get_or-between source (64 * k) (64 * k + 64) (4 * (x / scale)) 0 (omega arith)
                ∙ ap (λ n. get_or source n 0) place
          ];
    }

-- block k of a row whose blocks each are this long, by numbers as the code has them
pub IsStretched-next : (source into : List ℕ) (scale size k : ℕ) → IsStretched source 4 scale (size * k) into → 0 < scale → size ≡ scale * 16 → size * k + size ≤ length into → 64 * k + 64 ≤ length source
    → IsStretched source 4 scale (size * (k + 1))
    (put_mid (size * k) (size * k + size - size * k) into (put_chunk 0 (slice_range into (size * k) (size * k + size)) (map (sample_in (slice_range source (64 * k) (64 * k + 64)) scale) (range_with_len 0 size))))
IsStretched-next source into scale size k has above size_is room enough =
    let at_is : size * k ≡ scale * (16 * k) = ap (λ n. n * k) size_is ∙ omega arith in
    IsStretched-block source scale size k (size * k) (size * k + size) (size * (k + 1)) (size * k + size - size * k) into has above at_is size_is (omega arith) (omega arith) (omega arith) (omega arith) enough
