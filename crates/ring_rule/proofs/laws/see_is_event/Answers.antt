use Rattle.ring_rule.proofs.ReaderEvents.{see_event}
use Rattle.ring_rule.proofs.laws.see_is_event.Goals as goal

pub returns : goal.returns
returns c = see_event
