-- Each iteration makes one more error.
use Rattle.std.proofs.Common.{◌≡◌, ◌∙◌, ℤ, to_z, of_z, w16, FitsSigned, ap, arith, rules}
use Rattle.std.proofs.lemmas.Int.{ints, to_z-of_z}
use Rattle.scr_diffuse.specs.Diffusion.{error_of}
use Rattle.scr_diffuse.specs.Passes.{number_at}
use Rattle.scr_diffuse.proofs.StepLemmas.{KeptTo-more}
use Rattle.scr_diffuse.proofs.passes.keep_errors.Goals as goal

pub loop-number-preserved : goal.loop-number-preserved
loop-number-preserved c =
    let i = c.loop-number.number-index in
    let number : ℤ = number_at c.loop-number.numbers i in
    let fits : FitsSigned w16 number = search rules in
    let same : to_z w16 (of_z w16 number) ≡ number = to_z-of_z w16 number fits in
    let kept : to_z w16 (of_z w16 c.error_from.result) ≡ c.error_from.result = omega (arith, ints) in
    KeptTo-more i _ _ _ (omega arith) c.loop-number.invariant (kept ∙ c.error_from.ensures ∙ ap error_of same)
