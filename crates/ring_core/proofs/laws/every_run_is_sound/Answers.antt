use Rattle.ring_core.specs.Schedule.{start}
use Rattle.ring_core.proofs.Whole.{run_sound, start_sound}
use Rattle.ring_core.proofs.laws.every_run_is_sound.Goals as goal

pub returns : goal.returns
returns c = λ places readers total es some. run_sound (start places readers total) es (start_sound places readers total some)
