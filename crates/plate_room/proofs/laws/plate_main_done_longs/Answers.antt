use Rattle.plate_room.proofs.Clauses.{done_longs}
use Rattle.plate_room.proofs.laws.plate_main_done_longs.Goals as goal

pub returns : goal.returns
returns g c = done_longs g.R.Rack
