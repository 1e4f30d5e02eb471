-- The writer's turn at a ring: what it answers, and what it leaves of the writer's end.
use Rattle.std.specs.Prelude.{◌≡◌, ℕ, zero, suc, ◌+◌, ◌<◌, ◌≤◌, ◌⊎◌, List, length, drop, All, Some, None}
use Rattle.std.specs.Prelude.{slice_index}
use Rattle.ring_rule.specs.declared.view.RingNumbers.{RingNumbers}
use Rattle.ring_lanes.specs.Writer.{WriterState, HasRoom, cursor_known}
use Rattle.ring_turns.specs.declared.feeding.FeedEnd.{FeedEnd}
use Rattle.ring_turns.specs.declared.feeding.FeedEnd.TheVariants.{Waiting, Done}

-- P where the answer is Done
abbrev pub OnDone : FeedEnd → Type 0 → Type 0
OnDone (Waiting site at) P = Unit {0}
OnDone Done P = P

-- P of the reader and its cursor where the answer is Waiting
abbrev pub IfWaiting : FeedEnd → (ℕ → ℕ → Type 0) → Type 0
IfWaiting (Waiting site at) P = P site at
IfWaiting Done P = Unit {0}

-- the rows of a ring are as many as it says, each as long
pub record HasRows (ring : RingNumbers) : Type 0 where
  pub count : length ring.rows ≡ ring.total
  pub each : All (λ row. length row ≡ ring.row_len) ring.rows

-- how often the cursors of the first readers were loaded, together
unfoldable pub loads_of : List ℕ → ℕ → ℕ
loads_of loads zero = 0
loads_of loads (suc readers) = loads_of loads readers + slice_index loads readers

-- the writer knows that every reader left
abbrev pub NoneJoined : WriterState → Type 0
NoneJoined w = (r : ℕ) → r < w.ring.readers → cursor_known w.known r ≡ None

-- as far as it knows some reader is joined
abbrev pub SomeJoined : WriterState → Type 0
SomeJoined w = (r k : ℕ) × (r < w.ring.readers) × (cursor_known w.known r ≡ Some k)

-- all rows are published, or the writer knows that every reader left
abbrev pub IsFed : WriterState → Type 0
IsFed w = (w.head ≡ w.ring.total) ⊎ NoneJoined w

-- the known cursors are at most head
abbrev pub IsKnownWithin : WriterState → Type 0
IsKnownWithin w = (r k : ℕ) → r < w.ring.readers → cursor_known w.known r ≡ Some k → k ≤ w.head

-- head and the known cursors don't fall, a reader that is known to have left stays so, and the counts of
-- loads don't fall
pub record Grows (old new : WriterState) : Type 0 where
  pub head : old.head ≤ new.head
  pub known : (r k : ℕ) → r < old.ring.readers → cursor_known new.known r ≡ Some k
      → (j : ℕ) × (cursor_known old.known r ≡ Some j) × (j ≤ k)
  pub loads : (r : ℕ) → r < old.ring.readers → slice_index old.loads r ≤ slice_index new.loads r

-- the writer waits for a joined reader, whose cursor is head less places: it loaded cursors at least so
-- often, that reader's among them
pub record WaitsFor (old new : WriterState) (patience site at : ℕ) : Type 0 where
  pub reader : site < old.ring.readers
  pub known : cursor_known new.known site ≡ Some at
  pub behind : at + old.ring.places ≡ new.head
  pub counted : loads_of old.loads old.ring.readers + patience ≤ loads_of new.loads old.ring.readers
  pub own : slice_index old.loads site < slice_index new.loads site

-- how often a turn of this patience found a place taken: each cursor was loaded at most once for that, and
-- once for each row that was published. Waiting comes at the last time that the patience allows, and Done
-- before it
abbrev pub WaitsNoMore : ℕ → WriterState → WriterState → FeedEnd → Type 0
WaitsNoMore patience old new (Waiting site at) = (r : ℕ) → r < old.ring.readers
    → slice_index new.loads r + old.head ≤ slice_index old.loads r + patience + new.head
WaitsNoMore patience old new Done = (r : ℕ) → r < old.ring.readers
    → slice_index new.loads r + old.head < slice_index old.loads r + patience + new.head

-- the rows left of a feed are those that are yet to be published
pub record MayFeed (left : List (List ℕ)) (w : WriterState) : Type 0 where
  pub feed : left ≡ drop w.head w.ring.rows
  pub rows : HasRows w.ring

-- what a turn of the writer leaves of its end and of the feed, as far as a run needs it
pub record Fed (left : List (List ℕ)) (old new : WriterState) : Type 0 where
  pub feed : left ≡ drop new.head new.ring.rows
  pub same : new ≡ record old { head = new.head; known = new.known; loads = new.loads }
  pub grows : old.head ≤ new.head
  pub within : new.head ≤ old.ring.total
  pub gets_on : old.head < old.ring.total → SomeJoined old → HasRoom old → old.head < new.head
