use Rattle.plate_room.proofs.Clauses.{status_is}
use Rattle.plate_room.proofs.laws.plate_main_statuses.Goals as goal

pub returns : goal.returns
returns g c = status_is g.R.Rack
