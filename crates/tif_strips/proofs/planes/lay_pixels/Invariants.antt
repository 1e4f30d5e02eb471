use Rattle.std.proofs.Common.{[], ◌∷◌}
use Rattle.tif_strips.specs.Planes.{HasPixels}
use Rattle.tif_strips.proofs.planes.lay_pixels.Given as goal

abbrev pub invariant-loop-x : goal.invariant-loop-x
invariant-loop-x l = HasPixels (l.cyan ∷ l.magenta ∷ l.yellow ∷ l.black ∷ []) l.x l.into
