use Rattle.plate_room.proofs.Clauses.{printing_out}
use Rattle.plate_room.proofs.laws.plate_main_printing_out.Goals as goal

pub returns : goal.returns
returns g c = printing_out g.R.Rack
