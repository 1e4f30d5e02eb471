use Rattle.std.proofs.Common.{ℕ, ◌+◌, ◌<◌, ◌≤◌, slice_index}
use Rattle.page_tone.proofs.row.most_ink.Given as goal

-- no pixel so far has more ink
abbrev pub invariant-loop-x : goal.invariant-loop-x
invariant-loop-x l = (k : ℕ) → l.from ≤ k → k < l.x → slice_index l.cyan k + slice_index l.magenta k + slice_index l.yellow k + slice_index l.black k ≤ l.most
