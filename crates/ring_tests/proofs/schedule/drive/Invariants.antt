use Rattle.ring_core.specs.Sound.{IsSound}
use Rattle.ring_core.specs.Shown.{schedule_in}
use Rattle.ring_tests.proofs.schedule.drive.Given as goal

abbrev pub invariant-loop-turn : goal.invariant-loop-turn
invariant-loop-turn g l = IsSound (schedule_in l.core)
