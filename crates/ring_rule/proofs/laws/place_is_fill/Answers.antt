use Rattle.ring_rule.proofs.WriterEvents.{place_event}
use Rattle.ring_rule.proofs.laws.place_is_fill.Goals as goal

pub returns : goal.returns
returns c = λ g s id r w lane k at hand number fits. place_event g s id w k at r lane hand number fits
