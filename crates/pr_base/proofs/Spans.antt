-- A row of pixels is written in three spans: the pixels before a byte boundary, whole bytes, and the rest.
use Rattle.std.proofs.Common.{◌≡◌, ℕ, ◌+◌, ◌-◌, ◌*◌, ◌/◌, ◌%◌, ◌<◌, ◌≤◌, Bool, List, length, take, slice_range, get_or, refl, ap, inl, inr, arith}
use Rattle.std.proofs.lemmas.Bool.{cases_eq}
use Rattle.std.proofs.lemmas.List.{get_or-take, length-take}
use Rattle.std.proofs.lemmas.List.Edits.{get_or-between, length-between}
use Rattle.pr_base.specs.Bits.{SetsBits}
use Rattle.pr_base.proofs.BitLemmas.{SetsBits_same, SetsBits_join, SetsBits_nowhere}

-- for a list of any type, where the test of each pixel reads one item
pub spans : {A : Type 0} (reads : ℕ → A → Bool) (d : A) (items : List A) (old one two new : List ℕ)
    (from ragged done : ℕ) → ragged ≤ done → done ≤ length items → (ragged < done → (from + ragged) % 8 ≡ 0)
    → SetsBits (λ x. reads x (get_or (take ragged items) x d)) from (length (take ragged items)) old one
    → SetsBits (λ x. reads (ragged + x) (get_or (slice_range items ragged done) x d)) (8 * ((from + ragged) / 8))
    (length (slice_range items ragged done)) one two
    → SetsBits (λ x. reads (done + x) (get_or (slice_range items done (length items)) x d)) (from + done)
    (length (slice_range items done (length items))) two new
    → SetsBits (λ x. reads x (get_or items x d)) from (length items) old new
spans reads d items old one two new from ragged done first_end second_end aligned first second third =
    let test : ℕ → Bool = λ x. reads x (get_or items x d) in
    let first_count : length (take ragged items) ≡ ragged = omega (arith, length-take ragged items) in
    let second_count : length (slice_range items ragged done) ≡ done - ragged = length-between items ragged done (omega arith) in
    let third_count : length (slice_range items done (length items)) ≡ length items - done = length-between items done (length items) (omega arith) in
    let sets_first : SetsBits test from ragged old one =
    SetsBits_same _ test from ragged old one (λ x below. ap (reads x) (get_or-take ragged items x d below)) (rw first_count at first) in
    let sets_second : SetsBits (λ x. test (ragged + x)) (from + ragged) (done - ragged) one two =
    elim (cases_eq ragged done) [
      | inl none ↦
          let nothing : done - ragged ≡ 0 = omega arith in
          rw nothing (SetsBits_nowhere _ (λ x. test (ragged + x)) _ (from + ragged) one two (rw (second_count, nothing) at second))
      | inr some ↦
          let at : 8 * ((from + ragged) / 8) ≡ from + ragged = (let end : (from + ragged) % 8 ≡ 0 = aligned (omega arith) in omega arith) in
          SetsBits_same _ (λ x. test (ragged + x)) (from + ragged) (done - ragged) one two
          (λ x below. ap (reads (ragged + x)) (get_or-between items ragged done x d (omega arith))) (rw (second_count, at) at second)
    ] in
    let sets_third : SetsBits (λ x. test (done + x)) (from + done) (length items - done) two new =
    SetsBits_same _ (λ x. test (done + x)) (from + done) (length items - done) two new
    (λ x below. ap (reads (done + x)) (get_or-between items done (length items) x d (omega arith))) (rw third_count at third) in
    SetsBits_join test from done (from + done) (length items - done) (length items) old two new refl (omega arith)
    (SetsBits_join test from ragged (from + ragged) (done - ragged) done old one two refl (omega arith) sets_first sets_second) sets_third
