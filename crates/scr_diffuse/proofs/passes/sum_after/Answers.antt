-- The dot is subtracted.
use Rattle.std.proofs.Common.{◌≡◌, ◌∙◌, ℤ, pos, ◌+ℤ◌, ◌*ℤ◌, to_z, of_z, w32, ap, arith}
use Rattle.std.proofs.lemmas.Int.{ints, to_z-of_z}
use Rattle.scr_diffuse.specs.Diffusion.{error_of}
use Rattle.scr_diffuse.specs.Passes.{floor_16}
use Rattle.scr_diffuse.proofs.passes.sum_after.Goals as goal

pub returns-clause-sum : goal.returns-clause-sum
returns-clause-sum c =
    let before : ℤ = c.args.before in
    let same : to_z w32 (of_z w32 before) ≡ before = to_z-of_z w32 before c.ranges.before in
    let number : c.sixteenth.result ≡ floor_16 before = c.sixteenth.ensures.number ∙ ap floor_16 same in
    let dot : c.less_dot.result +ℤ (pos 7 *ℤ floor_16 before) ≡ to_z w32 (of_z w32 c.args.sum) +ℤ (pos 7 *ℤ error_of (floor_16 before)) = rw same at c.less_dot.ensures.dot in
    let seven : pos 7 *ℤ c.sixteenth.result ≡ pos 7 *ℤ floor_16 before = ap (λ z. pos 7 *ℤ z) number in
    let computed : to_z w32 (of_z w32 (to_z w32 (of_z w32 c.less_dot.result) +ℤ to_z w32 (of_z w32 (pos 7 *ℤ to_z w32 (of_z w32 c.sixteenth.result))))) ≡ c.less_dot.result +ℤ (pos 7 *ℤ c.sixteenth.result) = omega (arith, ints) in
    computed ∙ ap (λ z. c.less_dot.result +ℤ z) seven ∙ dot ∙ ap (λ s. s +ℤ (pos 7 *ℤ error_of (floor_16 before))) (to_z-of_z w32 c.args.sum c.ranges.sum)
