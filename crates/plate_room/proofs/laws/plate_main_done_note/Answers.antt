use Rattle.plate_room.proofs.Clauses.{done_note}
use Rattle.plate_room.proofs.laws.plate_main_done_note.Goals as goal

pub returns : goal.returns
returns g c = λ seen note status e h. (done_note g.R.Rack seen note status e h).given
