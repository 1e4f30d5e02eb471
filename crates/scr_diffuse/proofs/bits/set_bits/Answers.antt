-- Each iteration sets one more pixel.
use Rattle.std.proofs.Common.{◌∙◌, ap, pos, w16, FitsSigned, rules}
use Rattle.std.specs.Int.Signed.{le_z}
use Rattle.std.proofs.lemmas.Int.{to_z-of_z}
use Rattle.scr_diffuse.specs.Passes.{number_at}
use Rattle.pr_base.proofs.BitLemmas.{SetsBits_none, SetsBits_more}
use Rattle.scr_diffuse.proofs.bits.set_bits.Goals as goal

pub loop-x-init : goal.loop-x-init
loop-x-init c = SetsBits_none _ _ _

pub loop-x-preserved : goal.loop-x-preserved
loop-x-preserved c =
    let number = number_at c.args.numbers.now c.loop-x.x in
    let fits : FitsSigned w16 number = search rules in
    SetsBits_more _ _ _ _ _ _ c.loop-x.invariant
    (c.set_bit.ensures.here ∙ ap (le_z (pos 128)) (to_z-of_z w16 number fits)) c.set_bit.ensures.elsewhere
