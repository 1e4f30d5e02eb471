use Rattle.ring_core.proofs.Whole.{event_sound}
use Rattle.ring_core.proofs.laws.every_event_keeps.Goals as goal

pub returns : goal.returns
returns c = event_sound
