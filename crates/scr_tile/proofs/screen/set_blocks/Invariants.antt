use Rattle.std.proofs.Common.{◌≡◌, ◌+◌, ◌*◌, ◌%◌, length, slice_index}
use Rattle.pr_base.specs.Bits.{SetsBits}
use Rattle.scr_tile.specs.Tile.{tile_bit}
use Rattle.scr_tile.proofs.screen.set_blocks.Given as goal

-- the pixels of the blocks so far are set, and `column` is the tile column of the next block
abbrev pub invariant-loop-k : goal.invariant-loop-k
invariant-loop-k l =
    (l.column ≡ (l.start + 64 * l.k) % length l.row)
    × SetsBits (λ x. tile_bit (slice_index l.values x) (slice_index l.row ((l.start + x) % length l.row))) (8 * l.first) (64 * l.k) l.initial.bits l.bits
