use Rattle.plate_room.proofs.Clauses.{look_racks}
use Rattle.plate_room.proofs.laws.plate_main_verify_racks.Goals as goal

pub returns : goal.returns
returns g c = look_racks g.R.Rack
