use Rattle.plate_room.proofs.Clauses.{refused_loads}
use Rattle.plate_room.proofs.laws.plate_main_refused_loads.Goals as goal

pub returns : goal.returns
returns g c = refused_loads g.R.Rack
