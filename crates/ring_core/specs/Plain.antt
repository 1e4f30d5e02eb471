-- What shared words and lanes can show of a schedule: a closed row counts as one not yet taken, and a row
-- that its reader has passed does not count. A schedule is read this way before it is compared with a ring.
use Rattle.std.specs.Prelude.{List, ℕ, ◌*◌, ◌/◌, ◌%◌, nat_lt, if◌then◌else◌, map, Option, Some, None}
use Rattle.std.specs.Prelude.{unwrap_or, slice_set}
use Rattle.std.specs.List.{range_with_len}
use Rattle.ring_core.specs.declared.event.Stage.{Stage}
use Rattle.ring_core.specs.declared.event.Stage.TheVariants.{Idle, Holding, Closed}
use Rattle.ring_core.specs.Schedule.{Schedule, readers, Progress, Lanes, progress_of, lanes_of}
use Rattle.ring_core.specs.Sound.{IsSound}

-- a closed row is read as one not yet taken
abbrev pub plain_stage : Stage → Stage
plain_stage Idle = Idle
plain_stage Holding = Holding
plain_stage Closed = Idle

-- a number, unless it is below low
abbrev pub from_low : ℕ → Option ℕ → Option ℕ
from_low low None = None
from_low low (Some n) = if nat_lt n low then None else Some n

-- the first row number that counts in a reader's lanes: its cursor, or head once it has left
abbrev pub first_row : ℕ → Option ℕ → ℕ
first_row head cursor = unwrap_or cursor head

-- the lanes of a reader without the rows that it has passed
abbrev pub plain_row : ℕ → Option ℕ → (ℕ → Option ℕ) → ℕ → Option ℕ
plain_row head cursor row n = from_low (first_row head cursor) (row n)

abbrev pub plain_lanes : ℕ → Progress → Lanes → Lanes
plain_lanes head p l = record {
  filled = l.filled;
  stage = plain_stage l.stage;
  row = plain_row head p.cursor l.row;
}

-- 0, 1, 2 and so on, below n
abbrev pub numbers : ℕ → List ℕ
numbers n = range_with_len 0 n

-- the schedule of n readers, where reader r has progress p r and lanes l r
abbrev pub schedule_of : ℕ → ℕ → ℕ → ℕ → (ℕ → Progress) → (ℕ → Lanes) → Schedule
schedule_of places total head n p l = record {
  places = places;
  total = total;
  head = head;
  filled = map (λ r. (l r).filled) (numbers n);
  known = map (λ r. (p r).known) (numbers n);
  cursor = map (λ r. (p r).cursor) (numbers n);
  seen = map (λ r. (p r).seen) (numbers n);
  stage = map (λ r. (l r).stage) (numbers n);
  lane = map (λ i. (l (i / places)).row (i % places)) (numbers (n * places));
  taken = map (λ r. (p r).taken) (numbers n);
}

-- the plain reading
abbrev pub plain : Schedule → Schedule
plain s = schedule_of s.places s.total s.head (readers s) (progress_of s)
    (λ r. plain_lanes s.head (progress_of s r) (lanes_of s r))

-- the schedule with the stage of reader r read as closed
abbrev pub read_closed : ℕ → Schedule → Schedule
read_closed r s = record s { stage = slice_set s.stage r Closed }

-- the plain reading of a sound schedule is sound
abbrev pub PlainIsSound : Type 0
PlainIsSound = (s : Schedule) → IsSound s → IsSound (plain s)
