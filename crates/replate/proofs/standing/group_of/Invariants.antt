use Rattle.std.proofs.Common.{ℕ, ◌<◌}
use Rattle.replate.specs.Standing.{IsGroupOf}
use Rattle.replate.proofs.standing.group_of.Given as goal

abbrev pub invariant-loop-index : goal.invariant-loop-index
invariant-loop-index l = (k : ℕ) → k < l.index → IsGroupOf l.groups l.section l.pair l.site k → ⊥
