use Rattle.plate_room.proofs.Clauses.{printing_rose}
use Rattle.plate_room.proofs.laws.plate_main_printing.Goals as goal

pub returns : goal.returns
returns g c = printing_rose g.R.Rack
