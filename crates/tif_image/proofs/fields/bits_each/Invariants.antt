use Rattle.std.proofs.Common.{◌≡◌, ◌<◌, ℕ, Ok}
use Rattle.tif_dir.specs.Directory.{number_at}
use Rattle.tif_image.proofs.fields.bits_each.Given as goal

-- the values so far have this depth
abbrev pub invariant-loop-i : goal.invariant-loop-i
invariant-loop-i l = (k : ℕ) → k < l.i → number_at l.dir 258 k l.samples ≡ Ok l.depth
