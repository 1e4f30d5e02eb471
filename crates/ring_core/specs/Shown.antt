-- The schedule that a Core represents.
use Rattle.std.specs.Prelude.{◌≡◌, Bool, true, false, map, MatchBool}
use Rattle.ring_core.specs.declared.event.Event.{Event}
use Rattle.ring_core.specs.Events.{can_be, after, IsAdvance}
use Rattle.ring_core.specs.declared.state.Core.{Core}
use Rattle.ring_core.specs.Schedule.{Schedule}

abbrev pub schedule_in : Core → Schedule
schedule_in c = record {
  places = c.places;
  total = c.total;
  head = c.head;
  filled = c.filled.items;
  known = c.known.items;
  cursor = c.cursor.items;
  seen = c.seen.items;
  stage = c.stage.items;
  lane = c.lane.items;
  taken = map (λ rows. rows.items) c.taken.items;
}

-- the outcomes of a method that performs event e: true and its effect, or false and no change
abbrev pub Steps : Core → Event → Bool → Core → Type 0
Steps c e done d = MatchBool done
    ((can_be (schedule_in c) e ≡ true) × (schedule_in d ≡ after (schedule_in c) e))
    ((can_be (schedule_in c) e ≡ false) × (schedule_in d ≡ schedule_in c))

-- an advance that is possible: the only event that allocates memory
abbrev pub TakesMemory : Schedule → Event → Type 0
TakesMemory s e = (can_be s e ≡ true) × IsAdvance e
