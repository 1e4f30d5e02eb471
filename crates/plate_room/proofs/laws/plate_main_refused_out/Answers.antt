use Rattle.plate_room.proofs.Clauses.{refused_out}
use Rattle.plate_room.proofs.laws.plate_main_refused_out.Goals as goal

pub returns : goal.returns
returns g c = λ seen note status e h. (refused_out g.R.Rack seen note status e h).given
