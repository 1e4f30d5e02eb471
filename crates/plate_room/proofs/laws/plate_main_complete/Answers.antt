use Rattle.plate_room.proofs.Clauses.{complete}
use Rattle.plate_room.proofs.laws.plate_main_complete.Goals as goal

pub returns : goal.returns
returns g c = complete g.R.Rack
