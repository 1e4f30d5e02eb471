-- The rule of the ring's table, in two levels: over the writer's view and a function from reader to view, and
-- over the list of views.
use Rattle.std.specs.Prelude.{◌≡◌, ℕ, ◌+◌, ◌*◌, ◌%◌, ◌<◌, ◌≤◌, Bool, true, false, ◌&&◌, ◌||◌, nat_eq, List}
use Rattle.std.specs.Prelude.{[], length, Some, slice_index, slice_index_or}
use Rattle.std.specs.List.{All}
use mathlib.Core.Option.{Option as AtHome, none, some}
use lib.ListN.{get_elem?}
use Rattle.ring_core.specs.Schedule.{lane_place}
use Rattle.ring_core.specs.Sound.{IsSoundWords, IsSoundLanes}
use Rattle.ring_rule.specs.declared.lane.Lane.{Lane}
use Rattle.ring_rule.specs.declared.view.RingNumbers.{RingNumbers}
use Rattle.ring_rule.specs.declared.view.WriterView.{WriterView}
use Rattle.ring_rule.specs.declared.view.ReaderView.{ReaderView}
use Rattle.ring_rule.specs.declared.view.HeadNoteView.{HeadNoteView}
use Rattle.ring_rule.specs.declared.view.CursorNoteView.{CursorNoteView}
use Rattle.ring_rule.specs.declared.view.View.{View}
use Rattle.ring_rule.specs.declared.view.View.TheVariants.{Reader, HeadNote, CursorNote}
use Rattle.ring_rule.specs.Views.{left_word, cursor_in, word_of, actor_of, writer_of, reader_of}
use Rattle.ring_rule.specs.Shown.{Slot, Homes, RingState, home_at, head_shown, shown, is_number, lanes_known}

-- The words fit the views of the writer and the readers, and what they show is sound
pub record Holds (g : RingNumbers) (words : List ℕ) (w : WriterView) (readers : ℕ → ReaderView) : Type 0 where
  -- the cursor word of a reader that left is not a row number
  pub total_in : g.total < left_word
  -- one word for the head and one for each reader
  pub words_in : length words ≡ g.readers + 1
  -- every view has the same numbers of the ring
  pub writer_ring : w.ring ≡ g
  pub reader_ring : (r : ℕ) → r < g.readers → (readers r).ring ≡ g
  pub number_is : (r : ℕ) → r < g.readers → (readers r).number ≡ r
  pub made_in : w.made ≤ g.readers
  -- no reader took more rows than there are, so the cursor of a joined reader is never left_word
  pub taken_in : (r : ℕ) → r < g.readers → (readers r).taken ≤ g.total
  pub known_in : length w.known ≡ g.readers
  pub loads_in : length w.loads ≡ g.readers
  -- the words are those that the views imply
  pub head_is : slice_index words 0 ≡ w.head
  pub cursor_is : (r : ℕ) → r < g.readers → slice_index words (r + 1) ≡ word_of (readers r)
  -- the part that is shown of head, cursors, known and seen is sound
  pub sound : IsSoundWords g.places g.total (head_shown words) g.readers (shown words w readers)

-- the bytes of row n
abbrev pub row_at : RingNumbers → ℕ → List ℕ
row_at g n = slice_index_or g.rows n []

-- a buffer in its slot: one row long; its number, if any, is at most head, and its bytes are those of that
-- row
pub record Fits (g : RingNumbers) (head : ℕ) (lane : Lane) : Type 0 where
  pub long : length lane.bytes.items ≡ g.row_len
  pub not_ahead : (n : ℕ) → lane.number ≡ Some n → n ≤ head
  pub row : (n : ℕ) → lane.number ≡ Some n → lane.bytes.items ≡ row_at g n

-- by the reader's view, its lane for row n is out: it is the lane for its next row
abbrev pub is_held : ℕ → ReaderView → ℕ → Bool
is_held places x n = x.out && nat_eq (n % places) (x.taken % places)

-- by the writer's view, the lane of reader r for row n is out: it is the lane for row head
abbrev pub is_handed : ℕ → WriterView → ℕ → ℕ → Bool
is_handed places w r n = is_number r w.hand && nat_eq (n % places) (w.head % places)

abbrev pub is_away : ℕ → WriterView → (ℕ → ReaderView) → ℕ → ℕ → Bool
is_away places w readers r n = is_handed places w r n || is_held places (readers r) n

-- a slot is out if away is true, and otherwise holds a buffer that fits
abbrev pub LaneIs : RingNumbers → ℕ → AtHome Slot → Bool → Type 0
LaneIs g head home true = home ≡ none
LaneIs g head home false = (lane : Lane) × (home ≡ some (Some lane)) × Fits g head lane

-- the condition under which the writer's view may have a lane of reader r out: there is a row to fill it
-- with, and room for it
pub record HandFits (g : RingNumbers) (w : WriterView) (r : ℕ) : Type 0 where
  pub in_range : r < g.readers
  pub row : w.head < g.total
  pub unfilled : slice_index_or w.filled r false ≡ false
  pub from : ℕ
  pub known : cursor_in (slice_index w.known r) ≡ Some from
  pub room : w.head < from + g.places

-- the condition under which a reader's view may have its lane out: it is joined, and knows of a row at its
-- cursor
pub record OutFits (x : ReaderView) : Type 0 where
  pub joined : x.left ≡ false
  pub ahead : x.taken < x.seen

-- The slots fit the views, and what they show is sound
pub record HoldsLanes (g : RingNumbers) (words : List ℕ) (homes : Homes) (w : WriterView)
    (readers : ℕ → ReaderView) : Type 0 where
  -- total rows, all of one length
  pub rows_in : length g.rows ≡ g.total
  pub even : All (λ row. length row ≡ g.row_len) g.rows
  -- one slot for each reader and place
  pub deep : length homes ≡ g.readers * g.places
  pub filled_in : length w.filled ≡ g.readers
  pub hand_fits : (r : ℕ) → w.hand ≡ Some r → HandFits g w r
  pub out_fits : (r : ℕ) → r < g.readers → (readers r).out ≡ true → OutFits (readers r)
  -- a lane is out of its slot exactly if one of the views says so
  pub lane_is : (r n : ℕ) → r < g.readers
      → LaneIs g (head_shown words) (home_at homes (lane_place g.places r n)) (is_away g.places w readers r n)
  -- the part that is shown of the lanes is sound
  pub sound : (r : ℕ) → r < g.readers → let lanes = lanes_known g.places words homes w readers r in
      IsSoundLanes g.places g.total (head_shown words) (shown words w readers r) lanes

-- what a note of the writer says is true: head is at least its head, and the readers that it records as left
-- have left
pub record IsTrueHead (g : RingNumbers) (w : WriterView) (readers : ℕ → ReaderView) (n : HeadNoteView)
    : Type 0 where
  pub ring : n.ring ≡ g
  pub head : n.head ≤ w.head
  pub left : (r : ℕ) → r < g.readers → slice_index n.known r ≡ left_word → (readers r).left ≡ true

-- what a note of a reader says is true: the reader took at least that many rows, and left if the note says so
pub record IsTrueCursor (g : RingNumbers) (readers : ℕ → ReaderView) (n : CursorNoteView) : Type 0 where
  pub ring : n.ring ≡ g
  pub in_range : n.number < g.readers
  pub taken : n.taken ≤ (readers n.number).taken
  pub left : n.left ≡ true → (readers n.number).left ≡ true

-- the notes last joined to the seats are true
pub record HoldsNotes (g : RingNumbers) (w : WriterView) (readers : ℕ → ReaderView) : Type 0 where
  pub writer_told : (n : CursorNoteView) → w.told ≡ Some n → IsTrueCursor g readers n
  pub reader_told : (r : ℕ) (n : HeadNoteView) → r < g.readers → (readers r).told ≡ Some n
      → IsTrueHead g w readers n

-- no two views have the same actor
abbrev pub Alone : List View → Type 0
Alone views = (i j a : ℕ) (u v : View) → get_elem? views i ≡ some u → get_elem? views j ≡ some v
    → actor_of u ≡ Some a → actor_of v ≡ Some a → i ≡ j

-- the rule
pub record Kept (g : RingNumbers) (s : RingState) : Type 0 where
  pub alone : Alone s.views
  -- only readers that the writer made have a view
  pub made : (i : ℕ) (x : ReaderView) → get_elem? s.views i ≡ some (Reader x)
      → x.number < (writer_of g s.views).made
  pub head_notes : (i : ℕ) (n : HeadNoteView) → get_elem? s.views i ≡ some (HeadNote n)
      → IsTrueHead g (writer_of g s.views) (reader_of g s.views) n
  pub cursor_notes : (i : ℕ) (n : CursorNoteView) → get_elem? s.views i ≡ some (CursorNote n)
      → IsTrueCursor g (reader_of g s.views) n
  pub holds : Holds g s.words (writer_of g s.views) (reader_of g s.views)
  pub lanes : HoldsLanes g s.words s.homes (writer_of g s.views) (reader_of g s.views)
  pub told : HoldsNotes g (writer_of g s.views) (reader_of g s.views)
