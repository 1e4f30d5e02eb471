use Rattle.plate_room.proofs.Clauses.{look_never_one}
use Rattle.plate_room.proofs.laws.plate_main_verify.Goals as goal

pub returns : goal.returns
returns g c = look_never_one g.R.Rack
