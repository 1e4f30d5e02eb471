use Rattle.plate_room.proofs.Clauses.{memory_note}
use Rattle.plate_room.proofs.laws.plate_main_memory_note.Goals as goal

pub returns : goal.returns
returns g c = memory_note g.R.Rack
