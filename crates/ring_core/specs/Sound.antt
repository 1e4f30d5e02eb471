-- A sound schedule. The clauses on head, cursors, known and seen are separate from those on lanes, so that a
-- rule over shared words alone can cite them. All are stated for one reader, over plain values.
use Rattle.std.specs.Prelude.{◌≡◌, ◌≢◌, ℕ, ◌+◌, ◌*◌, ◌%◌, ◌<◌, ◌≤◌, Bool, true, length, Option, Some, None}
use Rattle.std.specs.Prelude.{slice_index}
use Rattle.ring_core.specs.declared.event.Stage.TheVariants.{Idle, Holding, Closed}
use Rattle.ring_core.specs.Schedule.{Schedule, readers, Progress, Lanes, progress_of, lanes_of}

-- a reader's cursor, the rows it took, and what it and the writer know
pub record IsSoundProgress (places head : ℕ) (p : Progress) : Type 0 where
  -- it took rows 0, 1, 2 and so on, each once
  pub in_order : (i : ℕ) → i < length p.taken → slice_index p.taken i ≡ i
  -- its cursor is the number of rows that it took
  pub counted : (c : ℕ) → p.cursor ≡ Some c → length p.taken ≡ c
  -- the head that it knows is at most the published head
  pub seen_in : p.seen ≤ head
  -- its cursor does not pass the head that it knows
  pub seen_ahead : (c : ℕ) → p.cursor ≡ Some c → c ≤ p.seen
  -- while it is joined, the writer knows a cursor of it that is not past its present one
  pub joined_known : (c : ℕ) → p.cursor ≡ Some c → (k : ℕ) × (p.known ≡ Some k) × (k ≤ c)
  -- once it left, the writer knows that, or a number of rows no larger than it took
  pub left_known : p.cursor ≡ None → (k : ℕ) → p.known ≡ Some k → k ≤ length p.taken
  -- head is at most one turn of the ring ahead of the cursor that the writer knows
  pub within : (k : ℕ) → p.known ≡ Some k → head ≤ k + places

-- the rows in a reader's lanes, and whether the lane of row head is filled
pub record AreSoundRows (places total head : ℕ) (row : ℕ → Option ℕ) (filled : Bool) : Type 0 where
  -- a row is stored at its own place
  pub placed : (q n : ℕ) → row q ≡ Some n → q % places ≡ n % places
  -- no row above head is in a lane, and row head only if the lane is filled
  pub not_ahead : (q n : ℕ) → row q ≡ Some n → n ≤ head
  pub newest : (q : ℕ) → row q ≡ Some head → filled ≡ true
  -- a filled lane holds row head, which is below total
  pub in_total : filled ≡ true → head < total
  pub fresh : filled ≡ true → row head ≡ Some head

-- a reader's stage, and the rows in its lanes
pub record IsSoundLanes (places total head : ℕ) (p : Progress) (l : Lanes) : Type 0 where
  -- a row that it holds or closed is one that it saw published
  pub holding_ahead : (c : ℕ) → p.cursor ≡ Some c → l.stage ≡ Holding → c < p.seen
  pub closed_ahead : (c : ℕ) → p.cursor ≡ Some c → l.stage ≡ Closed → c < p.seen
  -- a reader that left holds nothing
  pub left_idle : p.cursor ≡ None → l.stage ≡ Idle
  -- a lane is filled only where there is room
  pub room : (k : ℕ) → p.known ≡ Some k → l.filled ≡ true → head < k + places
  -- each published row that it has not passed is in its lane, except the one that it holds
  pub lies : (c n : ℕ) → p.cursor ≡ Some c → c ≤ n → n < head → (l.stage ≡ Holding → n ≢ c) → l.row n ≡ Some n
  -- the lane of the row that it holds is empty
  pub out : (c : ℕ) → p.cursor ≡ Some c → l.stage ≡ Holding → l.row c ≡ None
  pub rows : AreSoundRows places total head l.row l.filled

-- head, and the progress of n readers
pub record IsSoundWords (places total head n : ℕ) (p : ℕ → Progress) : Type 0 where
  pub some_place : 0 < places
  pub head_in : head ≤ total
  pub each : (r : ℕ) → r < n → IsSoundProgress places head (p r)

-- each list has an entry for each reader, and lane one for each reader and place
pub record IsSized (s : Schedule) : Type 0 where
  pub filled : length s.filled ≡ readers s
  pub known : length s.known ≡ readers s
  pub seen : length s.seen ≡ readers s
  pub stage : length s.stage ≡ readers s
  pub lane : length s.lane ≡ readers s * s.places
  pub taken : length s.taken ≡ readers s

pub record IsSound (s : Schedule) : Type 0 where
  pub sized : IsSized s
  pub words : IsSoundWords s.places s.total s.head (readers s) (progress_of s)
  pub lanes : (r : ℕ) → r < readers s → IsSoundLanes s.places s.total s.head (progress_of s r) (lanes_of s r)
