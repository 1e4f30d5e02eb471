use Rattle.std.proofs.Common.{slice_index}
use Rattle.pr_base.specs.Bits.{SetsBits}
use Rattle.scr_tile.specs.Tile.{tile_bit}
use Rattle.scr_tile.proofs.bits.set_bits.Given as goal

-- the pixels of the values read so far are set
abbrev pub invariant-loop-x : goal.invariant-loop-x
invariant-loop-x l =
    SetsBits (λ x. tile_bit (slice_index l.values x) (slice_index l.thresholds x)) l.from l.x l.initial.bits l.bits
