use Rattle.plate_room.proofs.Clauses.{words_there}
use Rattle.plate_room.proofs.laws.plate_main_words_there.Goals as goal

pub returns : goal.returns
returns g c = words_there g.R.Rack
