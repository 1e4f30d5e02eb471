use Rattle.std.proofs.Common.{◌≡◌, ℕ, ◌<◌, [], length, take, slice_index_or}
use Rattle.scr_tile.specs.declared.bayer_table.TheConstants.{THRESHOLDS}
use Rattle.scr_tile.proofs.bayer_table.bayer.Given as goal

-- the rows copied so far are the first N numbers of the table's rows
abbrev pub invariant-loop-y : goal.invariant-loop-y
invariant-loop-y g l =
    (length l.row-items ≡ g.row.N)
    × ((j : ℕ) → j < l.y → slice_index_or l.row-items j [] ≡ take g.row.N (slice_index_or THRESHOLDS j []))
