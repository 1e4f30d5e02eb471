use Rattle.plate_room.proofs.Clauses.{cut_left}
use Rattle.plate_room.proofs.laws.plate_main_cut.Goals as goal

pub returns : goal.returns
returns g c = cut_left g.R.Rack
