use Rattle.ring_core.specs.Sound.{IsSound}
use Rattle.ring_core.specs.Shown.{schedule_in}
use Rattle.ring_tests.proofs.schedule.apply.Given as goal

abbrev pub invariant-loop-event : goal.invariant-loop-event
invariant-loop-event g l = IsSound (schedule_in l.core)
