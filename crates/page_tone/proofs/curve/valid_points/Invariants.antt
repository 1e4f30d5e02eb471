use Rattle.std.proofs.Common.{ℕ, ◌+◌, ◌<◌}
use Rattle.page_tone.specs.Curve.{place}
use Rattle.page_tone.proofs.curve.valid_points.Given as goal

-- the input values so far rise
abbrev pub invariant-loop-k : goal.invariant-loop-k
invariant-loop-k l = (j : ℕ) → j + 1 < l.k → place l.points j < place l.points (j + 1)
