use Rattle.std.proofs.Common.{◌*◌}
use Rattle.std.specs.Prelude.{slice_index}
use Rattle.pr_base.specs.Bits.{SetsBits}
use Rattle.scr_diffuse.specs.Block.{bit_of}
use Rattle.scr_diffuse.proofs.dots.set_blocks.Given as goal

-- the pixels of the blocks so far are set
abbrev pub invariant-loop-k : goal.invariant-loop-k
invariant-loop-k l = SetsBits (λ x. bit_of (slice_index l.columns x) l.lane) (8 * l.first) (64 * l.k) l.initial.bits l.bits
