use Rattle.ring_rule.proofs.ReaderEvents.{give_event}
use Rattle.ring_rule.proofs.laws.give_is_close.Goals as goal

pub returns : goal.returns
returns c = λ g s id x lane k at out number fits. give_event g s id x k at lane out number fits
