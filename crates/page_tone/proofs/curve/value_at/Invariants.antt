use Rattle.std.proofs.Common.{ℕ, ◌<◌, ◌≤◌}
use Rattle.page_tone.specs.Curve.{place}
use Rattle.page_tone.proofs.curve.value_at.Given as goal

-- the points so far, apart from the first, are below the value
abbrev pub invariant-loop-right : goal.invariant-loop-right
invariant-loop-right l = (j : ℕ) → 1 ≤ j → j < l.right → place l.points j < l.v
