use Rattle.plate_room.proofs.Clauses.{memory_once}
use Rattle.plate_room.proofs.laws.plate_main_memory_note_faults.Goals as goal

pub returns : goal.returns
returns g c = memory_once g.R.Rack
