-- The schedule that shared words, lane slots and the views of the seats show.
use Rattle.std.specs.Prelude.{ℕ, ◌+◌, Bool, true, false, ◌&&◌, nat_lt, nat_eq, if◌then◌else◌, List, Option}
use Rattle.std.specs.Prelude.{Some, None, slice_index, slice_index_or}
use mathlib.Core.Option.{Option as AtHome, none, some}
use Rattle.atomic_table.specs.Table.{State}
use Rattle.ring_core.specs.declared.event.Stage.{Stage}
use Rattle.ring_core.specs.declared.event.Stage.TheVariants.{Idle, Holding}
use Rattle.ring_core.specs.Schedule.{Schedule, Progress, Lanes, lane_place}
use Rattle.ring_core.specs.Plain.{from_low, schedule_of}
use Rattle.ring_rule.specs.declared.lane.Lane.{Lane}
use Rattle.ring_rule.specs.declared.view.RingNumbers.{RingNumbers}
use Rattle.ring_rule.specs.declared.view.WriterView.{WriterView}
use Rattle.ring_rule.specs.declared.view.ReaderView.{ReaderView}
use Rattle.ring_rule.specs.declared.view.View.{View}
use Rattle.ring_rule.specs.Views.{cursor_in, up_to, writer_of, reader_of}

-- the content of a slot: a buffer, or nothing while a seat has that buffer
abbrev pub Slot : Type 0
Slot = Option Lane

-- for each slot its content, or that it is out with a seat
abbrev pub Homes : Type 0
Homes = List (AtHome Slot)

abbrev pub RingState : Type 0
RingState = State Slot View

abbrev pub home_at : Homes → ℕ → AtHome Slot
home_at homes k = slice_index_or homes k none

-- the number of the buffer in a slot
abbrev pub number_in : AtHome Slot → Option ℕ
number_in none = None
number_in (some None) = None
number_in (some (Some lane)) = lane.number

abbrev pub is_out : AtHome Slot → Bool
is_out none = true
is_out (some slot) = false

-- the head that the words show
abbrev pub head_shown : List ℕ → ℕ
head_shown words = slice_index words 0

-- the cursor of reader r that the words show
abbrev pub cursor_shown : List ℕ → ℕ → Option ℕ
cursor_shown words r = cursor_in (slice_index words (r + 1))

-- the progress of reader r that the words and the views show
abbrev pub shown : List ℕ → WriterView → (ℕ → ReaderView) → ℕ → Progress
shown words w readers r = record {
  known = cursor_in (slice_index w.known r);
  cursor = cursor_shown words r;
  seen = (readers r).seen;
  taken = up_to (readers r).taken;
}

-- a number if it is head
abbrev pub only : ℕ → Option ℕ → Option ℕ
only head None = None
only head (Some n) = if nat_eq n head then Some n else None

-- a lane's number if it counts: at or past the cursor; once the reader left, only row head
abbrev pub counted : ℕ → Option ℕ → Option ℕ → Option ℕ
counted head None number = only head number
counted head (Some c) number = from_low c number

-- the row shown in the lane of reader r for row n
abbrev pub row_shown : ℕ → List ℕ → Homes → ℕ → ℕ → Option ℕ
row_shown places words homes r n =
    counted (head_shown words) (cursor_shown words r) (number_in (home_at homes (lane_place places r n)))

abbrev pub is_number : ℕ → Option ℕ → Bool
is_number n None = false
is_number n (Some m) = nat_eq m n

-- a joined reader is holding if the row at its cursor is published and out of its lane
abbrev pub stage_shown : ℕ → Option ℕ → (ℕ → Bool) → Stage
stage_shown head None out = Idle
stage_shown head (Some c) out = if nat_lt c head && out c then Holding else Idle

-- the lanes of reader r that words and slots show: the lane for row head is filled if it shows head
abbrev pub lanes_shown : ℕ → List ℕ → Homes → ℕ → Lanes
lanes_shown places words homes r = record {
  filled = is_number (head_shown words) (row_shown places words homes r (head_shown words));
  stage = let out : ℕ → Bool = λ n. is_out (home_at homes (lane_place places r n)) in
      stage_shown (head_shown words) (cursor_shown words r) out;
  row = row_shown places words homes r;
}

-- the same, with filled and stage taken from the views
abbrev pub lanes_known : ℕ → List ℕ → Homes → WriterView → (ℕ → ReaderView) → ℕ → Lanes
lanes_known places words homes w readers r = record {
  filled = slice_index_or w.filled r false;
  stage = if (readers r).out then Holding else Idle;
  row = row_shown places words homes r;
}

-- the progress of reader r that the table shows
abbrev pub progress_shown : RingNumbers → RingState → ℕ → Progress
progress_shown g s r = shown s.words (writer_of g s.views) (reader_of g s.views) r

-- the schedule that the table shows
abbrev pub schedule_shown : RingNumbers → RingState → Schedule
schedule_shown g s =
    let lanes : ℕ → Lanes = lanes_shown g.places s.words s.homes in
    schedule_of g.places g.total (head_shown s.words) g.readers (progress_shown g s) lanes
