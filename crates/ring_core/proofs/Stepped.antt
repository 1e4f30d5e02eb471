-- A Core after a method that performs an event.
use Rattle.std.proofs.Common.{Bool, true, false, subst, sym}
use Rattle.ring_core.specs.declared.state.Core.{Core}
use Rattle.ring_core.specs.declared.event.Event.{Event}
use Rattle.ring_core.specs.Schedule.{Schedule}
use Rattle.ring_core.specs.Sound.{IsSound}
use Rattle.ring_core.specs.Shown.{schedule_in, Steps}
use Rattle.ring_core.proofs.Whole.{event_sound}

pub steps_sound : (c : Core) (e : Event) (done : Bool) (d : Core) → IsSound (schedule_in c) → Steps c e done d
    → IsSound (schedule_in d)
steps_sound c e true d h s = subst (λ (x : Schedule). IsSound x) (sym s.1) (event_sound (schedule_in c) e h s.0)
steps_sound c e false d h s = subst (λ (x : Schedule). IsSound x) (sym s.1) h
