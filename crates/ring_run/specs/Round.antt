-- A round of a run: the ends of the ring exchange notes, and then the writer and the readers take their
-- turns. This is the contract of private calls.
use Rattle.std.specs.Prelude.{◌≡◌, ℕ, ◌+◌, ◌-◌, ◌<◌, ◌≤◌, true, List, [], ◌∷◌, length, slice_get}
use Rattle.std.specs.Prelude.{Option, Some, None}
use Rattle.std.specs.List.{list_any}
use Rattle.ring_lanes.specs.Reader.{ReaderState}
use Rattle.ring_lanes.specs.Writer.{WriterState, cursor_known}
use Rattle.pr_rack.specs.Told.{RackTells}
use Rattle.ring_run.specs.Seat.{SeatData, is_going}
use Rattle.ring_run.specs.Served.{Carries, IsSeated, Work, to_take}

-- reader i of the writer's ring
pub record IsEndOf (writer : WriterState) (i : ℕ) (reader : ReaderState) : Type 0 where
  pub table : reader.table ≡ writer.table
  pub ring : reader.ring ≡ writer.ring
  pub number : reader.number ≡ i

-- the readers' ends of the writer's ring, in order
pub record AreEndsOf (writer : WriterState) (seats : List SeatData) : Type 0 where
  pub count : length seats ≡ writer.ring.readers
  pub each : (i : ℕ) (seat : SeatData) → slice_get seats i ≡ Some seat → IsEndOf writer i seat.reader

-- each has an end of the writer's ring
abbrev pub AreAtTable : WriterState → List SeatData → Type 0
AreAtTable writer seats = (i : ℕ) (seat : SeatData) → slice_get seats i ≡ Some seat
    → seat.reader.table ≡ writer.table

-- what the writer knows of a reader isn't below what the reader reported: that it left, or its cursor
pub record Knows (known : List ℕ) (reader : ReaderState) : Type 0 where
  pub left : reader.left ≡ true → cursor_known known reader.number ≡ None
  pub cursor : (k : ℕ) → cursor_known known reader.number ≡ Some k → reader.cursor ≤ k

-- the writer knows the end of each
abbrev pub KnowsAll : List ℕ → List SeatData → Type 0
KnowsAll known seats = (i : ℕ) (seat : SeatData) → slice_get seats i ≡ Some seat → Knows known seat.reader

-- no known cursor falls, and a reader that is known to have left remains so
abbrev pub KnowsMore : List ℕ → List ℕ → Type 0
KnowsMore old new = (r k : ℕ) → cursor_known new r ≡ Some k
    → (j : ℕ) × (cursor_known old r ≡ Some j) × (j ≤ k)

-- a note of the writer reached a reader that continues: the reader knows the head, and the writer knows that
-- the reader is joined
pub record IsTold (w : WriterState) (was is : SeatData) : Type 0 where
  pub role : is.role ≡ was.role
  pub stays : is.reader ≡ record was.reader { seen = is.reader.seen; loads = is.reader.loads }
  pub head : is_going was.reader ≡ true → w.head ≤ is.reader.seen
  pub joined : is_going was.reader ≡ true → (k : ℕ) × (cursor_known w.known was.reader.number ≡ Some k)

-- a note of the writer reached each of these
abbrev pub AreTold : WriterState → List SeatData → List SeatData → Type 0
AreTold w were are = (i : ℕ) (was is : SeatData) → slice_get were i ≡ Some was → slice_get are i ≡ Some is
    → IsTold w was is

-- the number of rows that the readers have yet to take
unfoldable pub all_to_take : List SeatData → ℕ
all_to_take [] = 0
all_to_take (seat ∷ seats) = to_take seat.reader + all_to_take seats

-- the measure of a run: the number of rows that are yet to be published or to be taken
abbrev pub to_do : WriterState → List SeatData → ℕ
to_do writer seats = (writer.ring.total - writer.head) + all_to_take seats

-- the measure falls, where some reader continues
abbrev pub Falls : WriterState → List SeatData → WriterState → List SeatData → Type 0
Falls was were now are = list_any (λ seat. is_going seat.reader) were ≡ true → to_do now are < to_do was were

-- in each run, the readers remain seated after the round
abbrev pub StaySeated : List RackTells → List RackTells → List SeatData → List SeatData → Type 0
StaySeated old new were are = (work : Work) (i : ℕ) (before : Option RackTells) (was is : SeatData)
    → Carries work.delivery was.reader.ring → slice_get were i ≡ Some was → slice_get are i ≡ Some is
    → IsSeated work i before (slice_get old i) was → IsSeated work i before (slice_get new i) is
