-- Each kind of step keeps the rule and is an event of the schedule.
use Rattle.std.specs.Prelude.{◌≡◌, ℕ, ◌+◌, ◌*◌, ◌<◌, true, false, List, [], ◌∷◌, ◌++◌, length, replicate}
use Rattle.std.specs.Prelude.{Some, None, slice_index, slice_set}
use Rattle.std.specs.List.{All}
use mathlib.Core.Option.{some}
use lib.ListN.{get_elem?}
use Rattle.atomic_table.specs.Table.{keeps, takes, gives, stepped, opening}
use Rattle.ring_core.specs.declared.event.Event.{Event}
use Rattle.ring_core.specs.declared.event.Event.TheVariants.{Look, Fill, Publish, See, Open, Close, Advance}
use Rattle.ring_core.specs.declared.event.Event.TheVariants.{Leave}
use Rattle.ring_core.specs.Schedule.{Schedule, start}
use Rattle.ring_core.specs.Events.{can_be, after}
use Rattle.ring_core.specs.Sound.{IsSound}
use Rattle.ring_core.specs.Plain.{plain, read_closed}
use Rattle.ring_rule.specs.declared.lane.Lane.{Lane}
use Rattle.ring_rule.specs.declared.view.RingNumbers.{RingNumbers}
use Rattle.ring_rule.specs.declared.view.WriterView.{WriterView}
use Rattle.ring_rule.specs.declared.view.ReaderView.{ReaderView}
use Rattle.ring_rule.specs.declared.view.HeadNoteView.{HeadNoteView}
use Rattle.ring_rule.specs.declared.view.CursorNoteView.{CursorNoteView}
use Rattle.ring_rule.specs.declared.view.View.{View}
use Rattle.ring_rule.specs.declared.view.View.TheVariants.{Writer, Reader, HeadNote, CursorNote, Spent}
use Rattle.ring_rule.specs.Views.{left_word, new_writer, writer_of, reader_of}
use Rattle.ring_rule.specs.Shown.{Slot, RingState, lanes_shown, lanes_known, schedule_shown}
use Rattle.ring_rule.specs.Empty.{IsEmptyLane}
use Rattle.ring_rule.specs.Kept.{Fits, Kept}
use Rattle.ring_rule.specs.Plays.{slot_for, slot_of, looked_at, published, picked, placed, saw_head, took}
use Rattle.ring_rule.specs.Plays.{gave, went_on, gone, MayPublish, MayFill, MayTake, made_more, made_reader}
use Rattle.ring_rule.specs.Plays.{noted, met}

-- the step to state t keeps the rule, the event is possible in the schedule before, and what t shows is the
-- plain reading of the event's effect
pub record IsEventFrom (before : Schedule) (g : RingNumbers) (t : RingState) (e : Event) : Type 0 where
  pub kept : Kept g t
  pub can : can_be before e ≡ true
  pub shows : schedule_shown g t ≡ plain (after before e)

abbrev pub IsEvent : RingNumbers → RingState → RingState → Event → Type 0
IsEvent g s t e = IsEventFrom (schedule_shown g s) g t e

-- the step from s to t keeps the rule and shows the same schedule
pub record ShowsTheSame (g : RingNumbers) (s t : RingState) : Type 0 where
  pub kept : Kept g t
  pub same : schedule_shown g t ≡ schedule_shown g s

-- seat id has view v
abbrev pub Has : RingState → ℕ → View → Type 0
Has s id v = get_elem? s.views id ≡ some v

-- seat id stores n in word i, and has view v afterwards
abbrev pub stores : RingState → ℕ → ℕ → ℕ → View → RingState
stores s i n id v = stepped s i n id [] v keeps

-- it loads word i
abbrev pub loads : RingState → ℕ → ℕ → View → RingState
loads s i id v = stores s i (slice_index s.words i) id v

-- with that load it takes y out of slot k
abbrev pub takes_slot : RingState → ℕ → ℕ → View → ℕ → Slot → RingState
takes_slot s i id v k y = stepped s i (slice_index s.words i) id [] v (takes k y)

-- with that load it puts y back into slot k
abbrev pub gives_slot : RingState → ℕ → ℕ → View → ℕ → Slot → RingState
gives_slot s i id v k y = stepped s i (slice_index s.words i) id ((k, y) ∷ []) v gives

-- The writer, with no lane out, loads the cursor of reader r
abbrev pub LookIsEvent : Type 0
LookIsEvent = (g : RingNumbers) (s : RingState) (id r : ℕ) (w : WriterView) → Kept g s → Has s id (Writer w)
    → r < g.readers → w.hand ≡ None → let n = slice_index s.words (r + 1) in
    IsEvent g s (loads s (r + 1) id (Writer (looked_at r n w))) (Look r)

-- the writer loads word 0 and takes the lane of reader r: its slot holds a buffer, and whichever buffer it
-- is, the same schedule is shown
pub record PickStays (g : RingNumbers) (s : RingState) (id r : ℕ) (w : WriterView) : Type 0 where
  pub home : (lane : Lane) × (get_elem? s.homes (slot_for w r) ≡ some (some (Some lane)))
  pub step : (y : Slot) → get_elem? s.homes (slot_for w r) ≡ some (some y)
      → ShowsTheSame g s (takes_slot s 0 id (Writer (picked r w)) (slot_for w r) y)

-- the same for a writer with no lane out
abbrev pub PickShowsTheSame : Type 0
PickShowsTheSame = (g : RingNumbers) (s : RingState) (id r : ℕ) (w : WriterView) → Kept g s
    → Has s id (Writer w)
    → w.hand ≡ None → MayFill w r → PickStays g s id r w

-- the writer loads word 0 and puts the lane of reader r back with row head
abbrev pub PlaceIsFill : Type 0
PlaceIsFill = (g : RingNumbers) (s : RingState) (id r : ℕ) (w : WriterView) (lane : Lane) → Kept g s
    → Has s id (Writer w)
    → w.hand ≡ Some r → lane.number ≡ Some w.head → Fits g w.head lane
    → IsEvent g s (gives_slot s 0 id (Writer (placed w)) (slot_for w r) (Some lane)) (Fill r)

-- the writer stores head + 1
abbrev pub PublishIsEvent : Type 0
PublishIsEvent = (g : RingNumbers) (s : RingState) (id : ℕ) (w : WriterView) → Kept g s → Has s id (Writer w)
    → MayPublish w
    → IsEvent g s (stores s 0 (w.head + 1) id (Writer (published w))) Publish

-- a joined reader loads the head
abbrev pub SeeIsEvent : Type 0
SeeIsEvent = (g : RingNumbers) (s : RingState) (id : ℕ) (x : ReaderView) → Kept g s → Has s id (Reader x)
    → x.left ≡ false
    → IsEvent g s (loads s 0 id (Reader (saw_head (slice_index s.words 0) x))) (See x.number)

-- a reader loads its word and takes its lane: its slot holds a buffer, and whichever buffer it is, the step
-- is an open
pub record TakeOpens (g : RingNumbers) (s : RingState) (id : ℕ) (x : ReaderView) : Type 0 where
  pub home : (lane : Lane) × (get_elem? s.homes (slot_of x) ≡ some (some (Some lane)))
  pub step : (y : Slot) → get_elem? s.homes (slot_of x) ≡ some (some y)
      → IsEvent g s (takes_slot s (x.number + 1) id (Reader (took x)) (slot_of x) y) (Open x.number)

abbrev pub TakeIsOpen : Type 0
TakeIsOpen = (g : RingNumbers) (s : RingState) (id : ℕ) (x : ReaderView) → Kept g s → Has s id (Reader x)
    → MayTake x
    → TakeOpens g s id x

-- a reader loads its word and puts its lane back with its row
abbrev pub GiveIsClose : Type 0
GiveIsClose = (g : RingNumbers) (s : RingState) (id : ℕ) (x : ReaderView) (lane : Lane) → Kept g s
    → Has s id (Reader x)
    → x.out ≡ true → lane.number ≡ Some x.taken → Fits g x.taken lane
    → IsEvent g s (gives_slot s (x.number + 1) id (Reader (gave x)) (slot_of x) (Some lane)) (Close x.number)

-- a joined reader that knows of a row at its cursor, and has no lane out, stores its cursor + 1; its stage is
-- first read as closed
abbrev pub AdvanceIsEvent : Type 0
AdvanceIsEvent = (g : RingNumbers) (s : RingState) (id : ℕ) (x : ReaderView) → Kept g s → Has s id (Reader x)
    → MayTake x
    → let before = read_closed x.number (schedule_shown g s) in
    IsEventFrom before g (stores s (x.number + 1) (x.taken + 1) id (Reader (went_on x))) (Advance x.number)

-- a joined reader with no lane out stores 2^64 - 1
abbrev pub LeaveIsEvent : Type 0
LeaveIsEvent = (g : RingNumbers) (s : RingState) (id : ℕ) (x : ReaderView) → Kept g s → Has s id (Reader x)
    → x.left ≡ false
    → x.out ≡ false → IsEvent g s (stores s (x.number + 1) left_word id (Reader (gone x))) (Leave x.number)

-- the table with one seat's view changed and one seat added: the effect of splitting a seat
abbrev pub cut : RingState → ℕ → View → View → RingState
cut s id left right = record {
  words = s.words;
  homes = s.homes;
  views = slice_set s.views id left ++ right ∷ [];
}

-- the writer's seat gives the next reader a seat
abbrev pub SplitShowsTheSame : Type 0
SplitShowsTheSame = (g : RingNumbers) (s : RingState) (id : ℕ) (w : WriterView) → Kept g s
    → Has s id (Writer w) → w.made < g.readers
    → ShowsTheSame g s (cut s id (made_more (Writer w)) (made_reader (Writer w)))

-- the writer's seat, or that of a reader, makes a note
abbrev pub HeadNoteShowsTheSame : Type 0
HeadNoteShowsTheSame = (g : RingNumbers) (s : RingState) (id : ℕ) (w : WriterView) → Kept g s
    → Has s id (Writer w) → ShowsTheSame g s (cut s id (Writer w) (noted (Writer w)))

abbrev pub CursorNoteShowsTheSame : Type 0
CursorNoteShowsTheSame = (g : RingNumbers) (s : RingState) (id : ℕ) (x : ReaderView) → Kept g s
    → Has s id (Reader x) → ShowsTheSame g s (cut s id (Reader x) (noted (Reader x)))

-- the table after seat id takes in another seat, whose view becomes Spent
abbrev pub joined : RingState → ℕ → View → ℕ → RingState
joined s id both other = record {
  words = s.words;
  homes = s.homes;
  views = slice_set (slice_set s.views id both) other Spent;
}

-- a note is joined to a reader's seat, or to the writer's
abbrev pub MeetHeadShowsTheSame : Type 0
MeetHeadShowsTheSame = (g : RingNumbers) (s : RingState) (id other : ℕ) (x : ReaderView) (n : HeadNoteView)
    → Kept g s → Has s id (Reader x) → Has s other (HeadNote n)
    → ShowsTheSame g s (joined s id (met (Reader x) (HeadNote n)) other)

abbrev pub MeetCursorShowsTheSame : Type 0
MeetCursorShowsTheSame = (g : RingNumbers) (s : RingState) (id other : ℕ) (w : WriterView)
    → (n : CursorNoteView) → Kept g s → Has s id (Writer w) → Has s other (CursorNote n)
    → ShowsTheSame g s (joined s id (met (Writer w) (CursorNote n)) other)

-- what the table shows is sound, and its slots agree with the views on which lanes are filled and which
-- readers hold their row
pub record ShowsSound (g : RingNumbers) (s : RingState) : Type 0 where
  pub sound : IsSound (schedule_shown g s)
  pub agrees : (r : ℕ) → r < g.readers → let w = writer_of g s.views in
      lanes_shown g.places s.words s.homes r ≡ lanes_known g.places s.words s.homes w (reader_of g s.views) r

abbrev pub RuleShowsSound : Type 0
RuleShowsSound = (g : RingNumbers) (s : RingState) → Kept g s → ShowsSound g s

-- the table's initial state: all words 0, an empty lane in each slot
pub record IsFirst (g : RingNumbers) (slots : List Slot) : Type 0 where
  pub places : 0 < g.places
  pub total : g.total < left_word
  pub rows_in : length g.rows ≡ g.total
  pub even : All (λ row. length row ≡ g.row_len) g.rows
  pub deep : length slots ≡ g.readers * g.places
  pub empty : All (IsEmptyLane g.row_len) slots

-- the initial state satisfies the rule and shows the core's initial schedule
pub record StartsAt (g : RingNumbers) (t : RingState) : Type 0 where
  pub kept : Kept g t
  pub shows : schedule_shown g t ≡ start g.places g.readers g.total

abbrev pub FirstIsStart : Type 0
FirstIsStart = (g : RingNumbers) (slots : List Slot) → IsFirst g slots
    → StartsAt g (opening (replicate (g.readers + 1) 0) slots (Writer (new_writer g)))
