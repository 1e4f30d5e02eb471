use Rattle.ring_rule.proofs.WriterEvents.{publish_event}
use Rattle.ring_rule.proofs.laws.publish_is_event.Goals as goal

pub returns : goal.returns
returns c = publish_event
