use Rattle.plate_room.proofs.Clauses.{words_none}
use Rattle.plate_room.proofs.laws.plate_main_words.Goals as goal

pub returns : goal.returns
returns g c = words_none g.R.Rack
