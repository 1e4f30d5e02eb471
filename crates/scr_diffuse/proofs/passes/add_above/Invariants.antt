use Rattle.std.proofs.Common.{◌≡◌, ℕ, ◌<◌, ◌≤◌}
use Rattle.scr_diffuse.specs.Passes.{number_at, sum_above}
use Rattle.scr_diffuse.proofs.passes.add_above.Given as goal

-- the list holds the sums made so far, followed by the unchanged errors
abbrev pub invariant-loop-x : goal.invariant-loop-x
invariant-loop-x l =
    ((k : ℕ) → k < l.x → number_at l.errors k ≡ sum_above l.values l.initial.errors k)
    × ((k : ℕ) → l.x ≤ k → number_at l.errors k ≡ number_at l.initial.errors k)
