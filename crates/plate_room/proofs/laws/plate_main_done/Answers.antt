use Rattle.plate_room.proofs.Clauses.{done_made}
use Rattle.plate_room.proofs.laws.plate_main_done.Goals as goal

pub returns : goal.returns
returns g c = done_made g.R.Rack
