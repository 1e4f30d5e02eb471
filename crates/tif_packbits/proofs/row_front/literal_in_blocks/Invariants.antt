use Rattle.std.proofs.Common.{◌-◌, ◌≡◌, ◌<◌, ◌≤◌, false, drop, ℕ, length}
use Rattle.tif_packbits.specs.Packbits.{begins_run}
use Rattle.tif_packbits.proofs.row_front.literal_in_blocks.Given as goal

-- no run begins before this index
abbrev pub invariant-loop-at : goal.invariant-loop-at
invariant-loop-at l = (l.at ≤ length l.row) × ((k : ℕ) → k < l.at → begins_run (drop k l.row) ≡ false)

abbrev pub decreases-loop-at : goal.decreases-loop-at
decreases-loop-at l = length l.row - l.at
