-- Laws that hold for every schedule.
use Rattle.std.specs.Prelude.{◌≡◌, ℕ, ◌%◌, ◌<◌, true, List, Some}
use Rattle.ring_core.specs.declared.event.Event.{Event}
use Rattle.ring_core.specs.declared.event.Event.TheVariants.{Fill}
use Rattle.ring_core.specs.Schedule.{Schedule, progress_of, lanes_of, start}
use Rattle.ring_core.specs.Events.{can_be, after, run}
use Rattle.ring_core.specs.Sound.{IsSound}

-- an event that is possible takes a sound schedule to a sound schedule
abbrev pub EveryEventKeeps : Type 0
EveryEventKeeps = (s : Schedule) (e : Event) → IsSound s → can_be s e ≡ true → IsSound (after s e)

-- the schedule after every list of events is sound
abbrev pub EveryRunIsSound : Type 0
EveryRunIsSound = (places readers total : ℕ) (es : List Event) → 0 < places
    → IsSound (run (start places readers total) es)

-- the reader has closed each earlier row of that place, and the row still stored there: all of them are
-- below its cursor c
pub record WasClosed (s : Schedule) (r c : ℕ) : Type 0 where
  pub published : (n : ℕ) → n < s.head → n % s.places ≡ s.head % s.places → n < c
  pub lying : (n : ℕ) → (lanes_of s r).row s.head ≡ Some n → n < c

-- a lane is filled only after its reader has closed all earlier rows of that lane
abbrev pub FillsOnlyClosedRows : Type 0
FillsOnlyClosedRows = (s : Schedule) (r c : ℕ) → IsSound s → can_be s (Fill r) ≡ true
    → (progress_of s r).cursor ≡ Some c → WasClosed s r c
