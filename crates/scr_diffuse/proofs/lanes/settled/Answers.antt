-- No number is below the bound.
use Rattle.scr_diffuse.proofs.LaneLemmas.{larger_at, larger_length}
use Rattle.scr_diffuse.proofs.lanes.settled.Goals as goal

pub returns-clause-eight : goal.returns-clause-eight
returns-clause-eight c = larger_length c.args.a c.requires

pub returns-clause-same : goal.returns-clause-same
returns-clause-same c = λ k within fits most. larger_at c.args.a k c.requires within fits most
