use Rattle.std.proofs.Common.{refl, inr}
use Rattle.plate_room.proofs.Clauses.{tells_at}
use Rattle.plate_room.proofs.laws.plate_main_shelf.Goals as goal

pub returns : goal.returns
returns g c = λ seen note status e. tells_at g.R.Rack seen note status 5 (inr (inr (inr refl))) e
