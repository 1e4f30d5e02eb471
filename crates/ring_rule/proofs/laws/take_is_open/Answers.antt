use Rattle.ring_rule.proofs.ReaderEvents.{take_opens}
use Rattle.ring_rule.proofs.laws.take_is_open.Goals as goal

pub returns : goal.returns
returns c = take_opens
