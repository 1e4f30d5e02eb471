use Rattle.plate_room.proofs.Clauses.{eight_asked}
use Rattle.plate_room.proofs.laws.plate_main_eight.Goals as goal

pub returns : goal.returns
returns g c = eight_asked g.R.Rack
