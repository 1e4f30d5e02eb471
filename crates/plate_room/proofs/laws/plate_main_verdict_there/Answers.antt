use Rattle.plate_room.proofs.Clauses.{verdict_there}
use Rattle.plate_room.proofs.laws.plate_main_verdict_there.Goals as goal

pub returns : goal.returns
returns g c = verdict_there g.R.Rack
