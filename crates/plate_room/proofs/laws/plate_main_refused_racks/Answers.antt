use Rattle.plate_room.proofs.Clauses.{refused_racks}
use Rattle.plate_room.proofs.laws.plate_main_refused_racks.Goals as goal

pub returns : goal.returns
returns g c = refused_racks g.R.Rack
