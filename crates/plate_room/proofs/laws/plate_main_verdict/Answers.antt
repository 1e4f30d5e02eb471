use Rattle.plate_room.proofs.Clauses.{verdict_told}
use Rattle.plate_room.proofs.laws.plate_main_verdict.Goals as goal

pub returns : goal.returns
returns g c = verdict_told g.R.Rack
