use Rattle.plate_room.proofs.Clauses.{one_left}
use Rattle.plate_room.proofs.laws.plate_main_one.Goals as goal

pub returns : goal.returns
returns g c = one_left g.R.Rack
