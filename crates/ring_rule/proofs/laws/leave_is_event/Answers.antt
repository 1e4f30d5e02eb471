use Rattle.ring_rule.proofs.ReaderEvents.{leave_event}
use Rattle.ring_rule.proofs.laws.leave_is_event.Goals as goal

pub returns : goal.returns
returns c = leave_event
