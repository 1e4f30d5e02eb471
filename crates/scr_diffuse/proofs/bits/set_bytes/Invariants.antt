use Rattle.std.proofs.Common.{◌*◌}
use Rattle.pr_base.specs.Bits.{SetsBits}
use Rattle.scr_diffuse.specs.Diffusion.{prints}
use Rattle.scr_diffuse.specs.Passes.{number_at}
use Rattle.scr_diffuse.proofs.bits.set_bytes.Given as goal

-- the pixels of the bytes so far are set
abbrev pub invariant-loop-j : goal.invariant-loop-j
invariant-loop-j l = SetsBits (λ x. prints (number_at l.numbers x)) (8 * l.first) (8 * l.j) l.initial.bits l.bits
