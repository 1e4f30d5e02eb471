use Rattle.ring_rule.proofs.WriterEvents.{pick_stays}
use Rattle.ring_rule.proofs.laws.pick_shows_the_same.Goals as goal

pub returns : goal.returns
returns c = λ g s id r w k at hand may. pick_stays g s id w k at r hand may
