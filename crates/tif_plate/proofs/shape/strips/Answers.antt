use Rattle.std.proofs.Common.{arith}
use Rattle.tif_plate.specs.Plate.{rows_each}
use Rattle.tif_plate.proofs.Rounding.{rounded_up}
use Rattle.tif_plate.proofs.shape.strips.Goals as goal

pub returns-clause-count : goal.returns-clause-count
returns-clause-count c = grind (arith, rounded_up c.args.height (rows_each c.args.width) (omega arith))
