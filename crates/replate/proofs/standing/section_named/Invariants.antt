use Rattle.std.proofs.Common.{◌≡◌, ℕ, ◌<◌}
use Rattle.plan_rows.specs.Paths.{section_name}
use Rattle.replate.proofs.standing.section_named.Given as goal

abbrev pub invariant-loop-section : goal.invariant-loop-section
invariant-loop-section l = (k : ℕ) → k < l.section → section_name l.plan k ≡ l.name → ⊥
