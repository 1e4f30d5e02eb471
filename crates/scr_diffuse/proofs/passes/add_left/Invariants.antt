use Rattle.std.proofs.Common.{◌≡◌, ℕ, ◌<◌, ◌≤◌, FitsSigned, w16}
use Rattle.scr_diffuse.specs.Diffusion.{error_of, left_of}
use Rattle.scr_diffuse.specs.Passes.{IsSum, floor_16, number_at, v_from}
use Rattle.scr_diffuse.proofs.passes.add_left.Given as goal

-- the list holds the numbers made so far, followed by the unchanged sums; the error of the last number is
-- that of the whole sum
abbrev pub invariant-loop-sum : goal.invariant-loop-sum
invariant-loop-sum l =
    ((k : ℕ) → k < l.sum-index → number_at l.sums k ≡ v_from l.initial.sums l.sums k)
    × ((k : ℕ) → l.sum-index ≤ k → number_at l.sums k ≡ number_at l.initial.sums k)
    × ((k : ℕ) → k < l.sum-index → FitsSigned w16 (number_at l.sums k))
    × (error_of (floor_16 l.whole) ≡ left_of (λ k. error_of (number_at l.sums k)) l.sum-index)
    × IsSum l.whole
