use Rattle.plate_room.proofs.Clauses.{printing_note}
use Rattle.plate_room.proofs.laws.plate_main_printing_note.Goals as goal

pub returns : goal.returns
returns g c = printing_note g.R.Rack
