use Rattle.plate_room.proofs.Clauses.{drill_status}
use Rattle.plate_room.proofs.laws.plate_main_drill.Goals as goal

pub returns : goal.returns
returns g c = drill_status g.R.Rack
