use Rattle.plate_room.proofs.Clauses.{stays}
use Rattle.plate_room.proofs.laws.plate_main_out_stays.Goals as goal

pub returns : goal.returns
returns g c = λ seen note status e files is wrong. (stays g.R.Rack seen note status e files is wrong).1
