-- Lists of zeros.
use Rattle.std.proofs.Common.{◌≡◌, ◌∙◌, ℤ, pos, List, length, replicate, ap, arith, inl, inr, ◌+◌}
use Rattle.std.proofs.lemmas.Bool.{cases_lt}
use Rattle.std.proofs.lemmas.List.{get_or-replicate, get_or_past}
use Rattle.scr_diffuse.specs.Diffuser.{joined}
use Rattle.scr_diffuse.specs.Passes.{number_at}
use Rattle.scr_diffuse.proofs.BlockLemmas.{block_at_start}
use Rattle.scr_diffuse.proofs.block_diffuser.BlockDiffuser.new.Goals as goal

pub invariant_of-result : goal.invariant_of-result
invariant_of-result c =
    let n = c.args.width + 21 + 21 + 2 in
    let items : List ℤ = c.in_ok-vec.field-0.items in
    let size : length items ≡ n = omega (arith, c.in_ok-vec.ensures.len) in
    let zeros : items ≡ replicate n (pos 0) = c.in_ok-vec.ensures.items_if_clones_equal (λ y e. e) in
    block_at_start (joined c.new.result.steps) c.args.width items c.in_ok-vec-2.field-0.items c.in_ok-vec-3.field-0.items (ap joined c.new.ensures)
    (omega (arith, size))
    (omega (arith, c.in_ok-vec-2.ensures.len)) (omega (arith, c.in_ok-vec-2.ensures.len, c.in_ok-vec-3.ensures.len)) (λ k.
    elim (cases_lt k n) [
      | inl inside ↦ ap (λ list. number_at list k) zeros ∙ get_or-replicate n k (pos 0) (pos 0) inside
      | inr outside ↦ get_or_past items k (pos 0) (omega (arith, size))
    ])
