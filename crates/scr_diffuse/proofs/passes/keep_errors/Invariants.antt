use Rattle.std.proofs.Common.{◌≡◌, ℕ, ◌<◌, ◌≤◌}
use Rattle.scr_diffuse.specs.Diffusion.{error_of}
use Rattle.scr_diffuse.specs.Passes.{number_at}
use Rattle.scr_diffuse.proofs.passes.keep_errors.Given as goal

-- the list holds the errors made so far, followed by the unchanged numbers
abbrev pub invariant-loop-number : goal.invariant-loop-number
invariant-loop-number l =
    ((k : ℕ) → k < l.number-index → number_at l.numbers k ≡ error_of (number_at l.initial.numbers k))
    × ((k : ℕ) → l.number-index ≤ k → number_at l.numbers k ≡ number_at l.initial.numbers k)
