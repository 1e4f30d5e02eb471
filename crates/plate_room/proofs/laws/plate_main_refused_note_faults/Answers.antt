use Rattle.plate_room.proofs.Clauses.{refused_note}
use Rattle.plate_room.proofs.laws.plate_main_refused_note_faults.Goals as goal

pub returns : goal.returns
returns g c = refused_note g.R.Rack
