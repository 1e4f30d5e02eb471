use Rattle.std.proofs.Common.{◌≡◌, ◌≤◌, ◌-◌, drop, map}
use Rattle.tif_strips.specs.Planes.{HasPixels, inks_of}
use Rattle.tif_strips.proofs.planes.Inks.fill.Given as goal

abbrev pub invariant-loop-at : goal.invariant-loop-at
invariant-loop-at l = record {
  within : l.at ≤ l.width;
  left : inks_of l.self ≡ map (drop l.at) (inks_of l.fn.self);
  pixels : HasPixels (inks_of l.fn.self) l.at l.into;
}

abbrev pub decreases-loop-at : goal.decreases-loop-at
decreases-loop-at l = l.width - l.at
