-- What contracts see of a reader's end of a ring, the results of its calls, and its invariant.
use Rattle.std.specs.Prelude.{◌≡◌, ℕ, ◌+◌, ◌<◌, ◌≤◌, Bool, true, not, List, Some, slice_get}
use Rattle.atomic_table.specs.Seated.{TableId}
use Rattle.ring_rule.specs.declared.view.RingNumbers.{RingNumbers}
use Rattle.ring_rule.specs.Marks.{ReaderMark, new_reader_mark}
use Rattle.ring_lanes.specs.declared.answer.NotYet.{NotYet}
use Rattle.ring_lanes.specs.declared.numbers.Numbers.{Numbers}
use Rattle.ring_lanes.specs.declared.source.Source.{Source}
use Rattle.ring_lanes.specs.declared.source.Source.TheVariants.{Ring}
use Rattle.ring_lanes.specs.Held.{HeldRow}
use Rattle.ring_lanes.specs.Numbers.{HasNumbers}

-- a reader's end of a ring
pub record ReaderState : Type 0 where
  -- the ring's table, and the ring's numbers and rows
  pub table : TableId
  pub ring : RingNumbers
  -- the reader's number
  pub number : ℕ
  -- how many rows it took and gave back
  pub cursor : ℕ
  pub left : Bool
  -- the row at the cursor is out
  pub held : Bool
  -- the head last loaded, and how often it was loaded
  pub seen : ℕ
  pub loads : ℕ

abbrev pub reader_state : ReaderMark → ReaderState
reader_state m = record {
  table = m.table;
  ring = m.view.ring;
  number = m.view.number;
  cursor = m.view.taken;
  left = m.view.left;
  held = m.view.out;
  seen = m.view.seen;
  loads = m.view.loads;
}

-- reader r before the first call
abbrev pub new_reader_state : TableId → RingNumbers → ℕ → ReaderState
new_reader_state table ring r = reader_state (new_reader_mark table ring r)

-- where the reader takes its rows
abbrev pub source_of : ReaderState → Source
source_of x = Ring x.number x.ring.readers x.ring.places

-- the row at the reader's cursor, taken by it
pub record IsNextRow (x : ReaderState) (held : HeldRow) : Type 0 where
  pub number : held.number ≡ x.cursor
  pub bytes : slice_get x.ring.rows x.cursor ≡ Some held.bytes
  pub source : held.source ≡ source_of x

-- the head was loaded exactly once if no row at the cursor was known, and otherwise not at all; the head
-- found is at least the known one and at most the number of rows
pub record SeesOnce (before after : ReaderState) : Type 0 where
  pub seen : before.cursor < before.seen → after.seen ≡ before.seen
  pub loads : before.cursor < before.seen → after.loads ≡ before.loads
  pub grows : before.seen ≤ before.cursor → before.seen ≤ after.seen
  pub counted : before.seen ≤ before.cursor → after.loads ≡ before.loads + 1
  pub within : after.seen ≤ before.ring.total

-- the row at the cursor was taken
pub record IsOpened (before after : ReaderState) (held : HeldRow) : Type 0 where
  pub row : IsNextRow before held
  pub ahead : before.cursor < after.seen
  pub stays : after ≡ record before { held = true; seen = after.seen; loads = after.loads }

-- the row at the cursor was taken and given back, possibly after loading the head
pub record Closes (old new : ReaderState) : Type 0 where
  pub reader : new ≡ record old { cursor = old.cursor + 1; seen = new.seen; loads = new.loads }
  pub known : old.cursor < new.seen
  pub grows : old.seen ≤ new.seen
  pub within : new.seen ≤ old.ring.total
  pub loads : old.loads ≤ new.loads
  -- each load found at least one more row
  pub found : new.loads + old.seen ≤ old.loads + new.seen

-- the rows from the first cursor up to this one were taken and given back, and in between, waits loads found
-- no row
pub record GoesOver (first now : ReaderState) (waits : ℕ) : Type 0 where
  pub reader : now ≡ record first { cursor = now.cursor; seen = now.seen; loads = now.loads }
  pub grows : first.cursor ≤ now.cursor
  pub within : now.cursor ≤ first.ring.total
  pub seen : first.seen ≤ now.seen
  pub counted : first.loads + waits ≤ now.loads
  pub found : now.loads + first.seen ≤ first.loads + waits + now.seen

-- a load found head equal to the cursor
pub record IsNotYet (before after : ReaderState) (answer : NotYet) : Type 0 where
  pub head : answer.head ≡ before.cursor
  pub stays : after ≡ record before { seen = answer.head; loads = before.loads + 1 }

-- the head was loaded at least patience times, and the last load found it equal to the reader's cursor
pub record Waits (old new : ReaderState) (patience head : ℕ) : Type 0 where
  pub at : head ≡ new.cursor
  pub within : head < old.ring.total
  pub last : new.seen ≡ head
  pub counted : old.loads + patience ≤ new.loads

-- the invariant of a reader's end between its calls, over its copies of the numbers
pub record IsReader (m : ReaderMark) (n : Numbers) (number cursor seen : ℕ) (joined : Bool) : Type 0 where
  pub numbers : HasNumbers m.view.ring n
  pub number_is : m.view.number ≡ number
  pub number_in : number < n.readers
  pub cursor_is : m.view.taken ≡ cursor
  pub seen_is : m.view.seen ≡ seen
  pub joined_is : m.view.left ≡ not joined
  pub cursor_in : cursor ≤ seen
  pub seen_in : seen ≤ n.total
  -- a row that is out is one that the reader knows of
  pub ahead : m.view.out ≡ true → cursor < seen

-- seats of a ring of these numbers, in order of readers, before the first call
abbrev pub AreNewSeats : Numbers → List ReaderMark → Type 0
AreNewSeats n seats = (r : ℕ) (m : ReaderMark) → slice_get seats r ≡ Some m → IsReader m n r 0 0 true
