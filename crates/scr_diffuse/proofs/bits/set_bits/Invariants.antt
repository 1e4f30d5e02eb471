use Rattle.pr_base.specs.Bits.{SetsBits}
use Rattle.scr_diffuse.specs.Diffusion.{prints}
use Rattle.scr_diffuse.specs.Passes.{number_at}
use Rattle.scr_diffuse.proofs.bits.set_bits.Given as goal

-- the pixels of the numbers read so far are set
abbrev pub invariant-loop-x : goal.invariant-loop-x
invariant-loop-x l = SetsBits (λ x. prints (number_at l.numbers x)) l.from l.x l.initial.bits l.bits
