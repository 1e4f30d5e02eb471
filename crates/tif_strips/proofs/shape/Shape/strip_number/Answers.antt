use Rattle.tif_strips.proofs.Shapes.{strip_number}
use Rattle.tif_strips.proofs.shape.Shape.strip_number.Goals as goal

pub returns-clause-within : goal.returns-clause-within
returns-clause-within c = rw c.strips_per_plane.ensures.count (strip_number c.args.self.now c.args.plane c.args.i c.requires.plane c.requires.within)
