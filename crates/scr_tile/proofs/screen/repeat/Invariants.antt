use Rattle.std.proofs.Common.{◌≡◌, ℕ, ◌<◌, ◌%◌, length, slice_index}
use Rattle.scr_tile.proofs.screen.repeat.Given as goal

-- the thresholds before the index are the repeated row
abbrev pub invariant-loop-threshold : goal.invariant-loop-threshold
invariant-loop-threshold l =
    (l.column ≡ l.threshold-index % length l.row)
    × ((k : ℕ) → k < l.threshold-index → slice_index l.threshold-items k ≡ slice_index l.row (k % length l.row))
