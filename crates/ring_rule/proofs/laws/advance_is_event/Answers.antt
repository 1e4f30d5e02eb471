use Rattle.ring_rule.proofs.ReaderEvents.{advance_event}
use Rattle.ring_rule.proofs.laws.advance_is_event.Goals as goal

pub returns : goal.returns
returns c = advance_event
