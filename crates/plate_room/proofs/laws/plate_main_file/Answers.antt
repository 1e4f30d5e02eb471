use Rattle.std.proofs.Common.{refl, inl, inr}
use Rattle.plate_room.proofs.Clauses.{tells_at}
use Rattle.plate_room.proofs.laws.plate_main_file.Goals as goal

pub returns : goal.returns
returns g c = λ seen note status e. tells_at g.R.Rack seen note status 4 (inr (inr (inl refl))) e
