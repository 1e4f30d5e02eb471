use Rattle.ring_rule.proofs.WriterEvents.{look_event}
use Rattle.ring_rule.proofs.laws.look_is_event.Goals as goal

pub returns : goal.returns
returns c = λ g s id r w k at l hand. look_event g s id w k at r l hand
