use Rattle.std.proofs.Common.{◌≡◌, ℕ, ◌<◌, pos}
use Rattle.scr_diffuse.specs.Passes.{number_at}
use Rattle.scr_diffuse.proofs.row.clear.Given as goal

-- the errors so far are 0
abbrev pub invariant-loop-error : goal.invariant-loop-error
invariant-loop-error l = (k : ℕ) → k < l.error-index → number_at l.errors k ≡ pos 0
