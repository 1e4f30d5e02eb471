use Rattle.plate_room.proofs.Clauses.{done_verdict}
use Rattle.plate_room.proofs.laws.plate_main_done_verdict.Goals as goal

pub returns : goal.returns
returns g c = done_verdict g.R.Rack
