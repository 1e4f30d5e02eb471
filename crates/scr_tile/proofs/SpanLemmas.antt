-- A row is screened in three spans: the pixels before the first byte boundary, whole blocks, and the rest.
use Rattle.std.proofs.Common.{◌≡◌, ℕ, ◌+◌, ◌-◌, ◌*◌, ◌/◌, ◌%◌, ◌<◌, ◌≤◌, Bool, List, length, take, get_or, slice_range, ap, ◌∙◌, arith}
use Rattle.std.proofs.lemmas.Nat.{mod_below}
use Rattle.std.proofs.lemmas.List.{length-take}
use Rattle.std.proofs.lemmas.List.Edits.{get_or-between, length-between}
use Rattle.std.proofs.Math.Nat.{mod-add-mod}
use Rattle.pr_base.specs.Bits.{SetsBits}
use Rattle.pr_base.proofs.BitLemmas.{SetsBits_same}
use Rattle.pr_base.proofs.Spans.{spans}
use Rattle.scr_tile.specs.Tile.{tile_bit, Repeats}

-- whether a value in column x of a row of thresholds prints
abbrev pub row_test : List ℕ → ℕ → ℕ → Bool
row_test row x value = tile_bit value (get_or row (x % length row) 0)

pub screened : (row repeated values old one two new : List ℕ) (from ragged done : ℕ) → 0 < length row → length row ≤ 64 → length repeated ≡ 128 → Repeats row 128 repeated → ragged < 8 → ragged ≤ done → done ≤ length values → length values < done + 64 → (ragged < done → (from + ragged) % 8 ≡ 0)
    → SetsBits (λ x. tile_bit (get_or (take ragged values) x 0) (get_or repeated x 0)) from (length (take ragged values)) old one
    → SetsBits (λ x. tile_bit (get_or (slice_range values ragged done) x 0) (get_or row ((ragged + x) % length row) 0)) (8 * ((from + ragged) / 8)) (length (slice_range values ragged done)) one two
    → SetsBits (λ x. tile_bit (get_or (slice_range values done (length values)) x 0) (get_or (slice_range repeated (done % length row) 128) x 0)) (from + done) (length (slice_range values done (length values))) two new
    → SetsBits (λ x. row_test row x (get_or values x 0)) from (length values) old new
screened row repeated values old one two new from ragged done above small long repeats few first_end second_end rest aligned first second third =
    let first_count = length-take ragged values in
    let third_count : length (slice_range values done (length values)) ≡ length values - done = length-between values done (length values) (omega arith) in
    let column : done % length row < length row = mod_below done (length row) above in
    spans (row_test row) 0 values old one two new from ragged done first_end second_end aligned
    (SetsBits_same _ (λ x. row_test row x (get_or (take ragged values) x 0)) from _ old one
    (λ x below. ap (λ t. tile_bit (get_or (take ragged values) x 0) t) (repeats x (omega (arith, first_count)))) first)
    second
    (SetsBits_same _ (λ x. row_test row (done + x) (get_or (slice_range values done (length values)) x 0)) (from + done) _ two new
    (λ x below. ap (λ t. tile_bit (get_or (slice_range values done (length values)) x 0) t)
    (get_or-between repeated (done % length row) 128 x 0 (omega arith) ∙ repeats (done % length row + x) (omega arith)
    ∙ ap (λ k. get_or row k 0) (mod-add-mod done (length row) x))) third)
