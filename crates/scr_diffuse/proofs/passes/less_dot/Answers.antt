-- The error of the pixel before follows from its whole sum.
use Rattle.std.proofs.Common.{◌≡◌, ◌∙◌, ℤ, pos, ◌+ℤ◌, ◌*ℤ◌, to_z, of_z, w32, true, false, ap, sym, arith}
use Rattle.std.specs.Int.Signed.{le_z}
use Rattle.std.proofs.lemmas.Int.{ints, to_z-of_z}
use Rattle.scr_diffuse.specs.Diffusion.{error_of}
use Rattle.scr_diffuse.specs.Passes.{floor_16}
use Rattle.scr_diffuse.proofs.NumberLemmas.{less_dot_is, with_dot, no_dot}
use Rattle.scr_diffuse.proofs.passes.less_dot.Goals as goal

pub returns-then-before-clause-dot : goal.returns-then-before-clause-dot
returns-then-before-clause-dot c =
    let before : ℤ = c.args.before in
    let same : to_z w32 (of_z w32 before) ≡ before = to_z-of_z w32 before c.ranges.before in
    let on : le_z (pos 2048) before ≡ true = ap (le_z (pos 2048)) (sym same) ∙ c.if-before.true in
    less_dot_is _ c.args.sum (floor_16 before) (error_of (floor_16 before)) (omega (arith, ints)) (with_dot before on)

pub returns-else-before-clause-dot : goal.returns-else-before-clause-dot
returns-else-before-clause-dot c =
    let before : ℤ = c.args.before in
    let same : to_z w32 (of_z w32 before) ≡ before = to_z-of_z w32 before c.ranges.before in
    let off : le_z (pos 2048) before ≡ false = ap (le_z (pos 2048)) (sym same) ∙ c.if-before.false in
    ap (λ s. s +ℤ (pos 7 *ℤ floor_16 before)) (to_z-of_z w32 c.args.sum c.ranges.sum) ∙ ap (λ e. c.args.sum +ℤ (pos 7 *ℤ e)) (no_dot before off)
