use Rattle.ring_core.proofs.Made.{plain_sound}
use Rattle.ring_core.proofs.laws.plain_is_sound.Goals as goal

pub returns : goal.returns
returns c = plain_sound
