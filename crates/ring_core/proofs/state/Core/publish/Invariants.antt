use Rattle.std.proofs.Common.{◌≡◌, ℕ, ◌<◌, true}
use Rattle.ring_core.specs.Schedule.{progress_of, lanes_of}
use Rattle.ring_core.specs.Events.{is_ready}
use Rattle.ring_core.specs.Shown.{schedule_in}
use Rattle.ring_core.proofs.state.Core.publish.Given as goal

abbrev pub invariant-loop-reader : goal.invariant-loop-reader
invariant-loop-reader l = (k : ℕ) → k < l.reader → is_ready (progress_of (schedule_in l.self) k) (lanes_of (schedule_in l.self) k) ≡ true
