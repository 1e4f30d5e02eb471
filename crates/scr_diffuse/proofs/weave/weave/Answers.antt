use Rattle.scr_diffuse.proofs.WeaveLemmas.{weave_at}
use Rattle.scr_diffuse.proofs.weave.weave.Goals as goal

pub returns-clause-places : goal.returns-clause-places
returns-clause-places c = λ n within. weave_at c.args.v n within c.requires
