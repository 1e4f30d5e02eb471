use Rattle.std.specs.Prelude.{slice_index}
use Rattle.pr_base.specs.Bits.{SetsBits}
use Rattle.scr_diffuse.specs.Block.{bit_of}
use Rattle.scr_diffuse.proofs.dots.set_bits.Given as goal

-- the pixels of the columns read so far are set
abbrev pub invariant-loop-x : goal.invariant-loop-x
invariant-loop-x l = SetsBits (λ x. bit_of (slice_index l.columns x) l.lane) l.from l.x l.initial.bits l.bits
