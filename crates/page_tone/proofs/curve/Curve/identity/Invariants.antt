use Rattle.std.proofs.Common.{◌≡◌, ℕ, ◌<◌, length, slice_index}
use Rattle.page_tone.proofs.curve.Curve.identity.Given as goal

-- the values so far are those of the curve
abbrev pub invariant-loop-v : goal.invariant-loop-v
invariant-loop-v l = (length l.values ≡ 256) × ((k : ℕ) → k < l.v → slice_index l.values k ≡ k)
