use Rattle.plate_room.proofs.Clauses.{done_loads}
use Rattle.plate_room.proofs.laws.plate_main_done_loads.Goals as goal

pub returns : goal.returns
returns g c = done_loads g.R.Rack
