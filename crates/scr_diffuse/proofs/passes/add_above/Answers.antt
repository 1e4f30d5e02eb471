-- Each iteration makes one more sum; the errors that it reads are unchanged.
use Rattle.std.proofs.Common.{◌≡◌, ℕ, ◌+◌, ◌<◌, ℤ, ◌∙◌, ap, to_z, of_z, w16, FitsSigned, slice_index, arith, below_more}
use Rattle.std.proofs.lemmas.Int.{ints, to_z-of_z}
use Rattle.scr_diffuse.specs.Diffusion.{IsError}
use Rattle.scr_diffuse.specs.Passes.{number_at, sum_above, weighted}
use Rattle.scr_diffuse.proofs.StepLemmas.{written, unwritten}
use Rattle.scr_diffuse.proofs.passes.add_above.Goals as goal

error_is : (error read : ℤ) → IsError error → read ≡ error → to_z w16 (of_z w16 read) ≡ error
error_is error read small same = ap (λ z. to_z w16 (of_z w16 z)) same ∙ to_z-of_z w16 error (omega (arith, ints))

weighted_fits : (value : ℕ) (right here left : ℤ) → value < 256 → IsError right → IsError here → IsError left
    → FitsSigned w16 (weighted value right here left)
weighted_fits value right here left byte small_right small_here small_left = omega (arith, ints)

sum_is : (value : ℕ) (right here left read_right read_here read_left sum : ℤ) → value < 256 → IsError right
    → IsError here → IsError left → read_right ≡ right → read_here ≡ here → read_left ≡ left
    → sum ≡ weighted value (to_z w16 (of_z w16 read_right)) (to_z w16 (of_z w16 read_here)) (to_z w16 (of_z w16 read_left))
    → to_z w16 (of_z w16 sum) ≡ weighted value right here left
sum_is value right here left read_right read_here read_left sum byte small_right small_here small_left same_right same_here same_left made =
    let now : sum ≡ weighted value right here left =
    rw (error_is right read_right small_right same_right, error_is here read_here small_here same_here, error_is left read_left small_left same_left) at made in
    ap (λ z. to_z w16 (of_z w16 z)) now
    ∙ to_z-of_z w16 (weighted value right here left) (weighted_fits value right here left byte small_right small_here small_left)

pub loop-x-preserved : goal.loop-x-preserved
loop-x-preserved c =
    let x = c.loop-x.x in
    let errors = c.args.errors.now in
    let right : number_at c.loop-x.errors (x + 2) ≡ number_at errors (x + 2) = c.loop-x.invariant.1 (x + 2) (omega arith) in
    let here : number_at c.loop-x.errors (x + 1) ≡ number_at errors (x + 1) = c.loop-x.invariant.1 (x + 1) (omega arith) in
    let left : number_at c.loop-x.errors x ≡ number_at errors x = c.loop-x.invariant.1 x (omega arith) in
    let sum : to_z w16 (of_z w16 c.sum_of.result) ≡ sum_above c.args.values.now errors x =
    sum_is (slice_index c.args.values.now x) _ _ _ _ _ _ c.sum_of.result (omega (arith, c.type_inv.values x)) (c.requires.errors (x + 2)) (c.requires.errors (x + 1)) (c.requires.errors x) right here left c.sum_of.ensures in (
      below_more _ _ (λ k below. unwritten c.loop-x.errors x k _ (λ e. absurd (omega arith)) ∙ c.loop-x.invariant.0 k below)
          (written c.loop-x.errors x _ (omega arith) ∙ sum),
      λ k above. unwritten c.loop-x.errors x k _ (λ e. absurd (omega arith)) ∙ c.loop-x.invariant.1 k (omega arith),
    )
