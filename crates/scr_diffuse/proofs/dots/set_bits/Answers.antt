-- Each iteration sets one more pixel.
use Rattle.pr_base.proofs.BitLemmas.{SetsBits_none, SetsBits_more}
use Rattle.scr_diffuse.proofs.dots.set_bits.Goals as goal

pub loop-x-init : goal.loop-x-init
loop-x-init c = SetsBits_none _ _ _

pub loop-x-preserved : goal.loop-x-preserved
loop-x-preserved c =
    SetsBits_more _ _ _ _ _ _ c.loop-x.invariant c.set_bit.ensures.here c.set_bit.ensures.elsewhere
