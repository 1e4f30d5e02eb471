use Rattle.std.proofs.Common.{◌-◌, ◌≡◌, ◌<◌, ◌≤◌, ℕ, get_or}
use Rattle.tif_packbits.proofs.row_front.front_run.Given as goal

-- the bytes so far belong to a run
abbrev pub invariant-loop-n : goal.invariant-loop-n
invariant-loop-n l = (1 ≤ l.n) × (l.n ≤ l.most) × ((k : ℕ) → k < l.n → get_or l.row k 0 ≡ get_or l.row 0 0)

abbrev pub decreases-loop-n : goal.decreases-loop-n
decreases-loop-n l = l.most - l.n
