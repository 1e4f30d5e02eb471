-- What contracts see of the writer's end of a ring, the results of its calls, and its invariant.
use Rattle.std.specs.Prelude.{◌≡◌, ◌≢◌, ℕ, ◌+◌, ◌<◌, ◌≤◌, ◌⊎◌, not, nat_eq, false, List, length}
use Rattle.std.specs.Prelude.{count_by, Option, Some, slice_index, slice_index_or}
use Rattle.atomic_table.specs.Seated.{TableId}
use Rattle.ring_rule.specs.declared.view.RingNumbers.{RingNumbers}
use Rattle.ring_rule.specs.declared.view.WriterView.{WriterView}
use Rattle.ring_rule.specs.Views.{left_word, cursor_in}
use Rattle.ring_rule.specs.Marks.{WriterMark, new_writer_mark}
use Rattle.ring_lanes.specs.declared.answer.Full.{Full}
use Rattle.ring_lanes.specs.declared.numbers.Numbers.{Numbers}
use Rattle.ring_lanes.specs.Numbers.{HasNumbers}

-- the writer's end of a ring
pub record WriterState : Type 0 where
  -- the ring's table, and the ring's numbers and rows
  pub table : TableId
  pub ring : RingNumbers
  -- how many rows were published
  pub head : ℕ
  -- for each reader the cursor word last loaded, and how often it was loaded
  pub known : List ℕ
  pub loads : List ℕ

abbrev pub writer_state : WriterMark → WriterState
writer_state m = record {
  table = m.table;
  ring = m.view.ring;
  head = m.view.head;
  known = m.view.known;
  loads = m.view.loads;
}

-- the writer's end before the first call
abbrev pub new_writer_state : TableId → RingNumbers → WriterState
new_writer_state table ring = writer_state (new_writer_mark table ring)

-- the cursor of reader r by these words; None if they say that it left
abbrev pub cursor_known : List ℕ → ℕ → Option ℕ
cursor_known known r = cursor_in (slice_index known r)

-- how many readers have not left, by these words
abbrev pub joined_count : List ℕ → ℕ
joined_count known = count_by (λ word. not (nat_eq word left_word)) known

-- as far as the writer knows, reader r left or has closed the row whose place row head takes
abbrev pub HasRoomFor : WriterState → ℕ → Type 0
HasRoomFor w r = (k : ℕ) → cursor_known w.known r ≡ Some k → w.head < k + w.ring.places

abbrev pub HasRoom : WriterState → Type 0
HasRoom w = (r : ℕ) → r < w.ring.readers → HasRoomFor w r

-- what contracts see of a pass: the number of the row that may be published
pub record PassState : Type 0 where
  pub head : ℕ

-- this pass permits the writer to publish
pub record IsPass (w : WriterState) (pass : PassState) : Type 0 where
  pub head : pass.head ≡ w.head
  pub room : HasRoom w

-- the cursor of reader r was not loaded
pub record IsPassedOver (before after : WriterState) (r : ℕ) : Type 0 where
  pub known : slice_index after.known r ≡ slice_index before.known r
  pub loads : slice_index after.loads r ≡ slice_index before.loads r

-- it was loaded once: the cursor found is at least the known one and at most head, or the reader left
pub record IsLoaded (before after : WriterState) (r : ℕ) : Type 0 where
  pub counted : slice_index after.loads r ≡ slice_index before.loads r + 1
  pub found : (k : ℕ) → cursor_known after.known r ≡ Some k
      → (j : ℕ) × (cursor_known before.known r ≡ Some j) × (j ≤ k) × (k ≤ before.head)

-- it was loaded once, with the known cursor equal to head - places
pub record IsLook (before after : WriterState) (r : ℕ) : Type 0 where
  pub known : ℕ
  pub known_is : cursor_known before.known r ≡ Some known
  pub behind : known + before.ring.places ≡ before.head
  pub loaded : IsLoaded before after r

-- the cursor of reader r was loaded at most once, and only if the known one was head - places
abbrev pub LooksOnceAt : WriterState → WriterState → ℕ → Type 0
LooksOnceAt before after r = IsPassedOver before after r ⊎ IsLook before after r

-- the same for every reader
abbrev pub LooksOnce : WriterState → WriterState → Type 0
LooksOnce before after = (r : ℕ) → r < before.ring.readers → LooksOnceAt before after r

abbrev pub OthersStand : WriterState → WriterState → ℕ → Type 0
OthersStand before after reader = (r : ℕ) → r ≢ reader → IsPassedOver before after r

-- a load found this cursor of a joined reader, equal to head - places
pub record IsBehind (before after : WriterState) (full : Full) : Type 0 where
  pub look : IsLook before after full.site
  pub found : cursor_known after.known full.site ≡ Some full.at
  pub behind : full.at + before.ring.places ≡ before.head

-- the first reader that is behind was found so by a load; no cursor of a later reader was loaded
pub record IsFull (before after : WriterState) (full : Full) : Type 0 where
  pub in_range : full.site < before.ring.readers
  pub found : IsBehind before after full
  pub first : (r : ℕ) → r < full.site → HasRoomFor after r
  pub others : (r : ℕ) → full.site < r → IsPassedOver before after r

-- a cursor word that the writer may know: that of a reader that left, or one from head - places to head
abbrev pub IsKnown : ℕ → ℕ → ℕ → Type 0
IsKnown places head word = word ≢ left_word → (word ≤ head) × (head ≤ word + places)

-- each known cursor is between head - places and head
abbrev pub AreKnown : List ℕ → ℕ → ℕ → ℕ → Type 0
AreKnown known places readers head = (r : ℕ) → r < readers → IsKnown places head (slice_index known r)

-- the writer may fill the lanes of all readers that it has not seen leave: a row remains, there is room for
-- it, and no lane is filled
pub record MayFillAll (v : WriterView) : Type 0 where
  pub row : v.head < v.ring.total
  pub known_in : length v.known ≡ v.ring.readers
  pub room : (r k : ℕ) → r < v.ring.readers → cursor_known v.known r ≡ Some k → v.head < k + v.ring.places
  pub filled_in : length v.filled ≡ v.ring.readers
  pub unfilled : (r : ℕ) → slice_index_or v.filled r false ≡ false

-- the invariant of the writer's end between its calls, over its copies of head and of the known words
pub record IsWriter (m : WriterMark) (n : Numbers) (head : ℕ) (known : List ℕ) : Type 0 where
  pub numbers : HasNumbers m.view.ring n
  pub head_is : m.view.head ≡ head
  pub head_in : head ≤ n.total
  pub known_is : m.view.known ≡ known
  pub known_in : length known ≡ n.readers
  pub loads_in : length m.view.loads ≡ n.readers
  pub are_known : AreKnown known n.places n.readers head
  -- no lane is filled for row head
  pub filled_in : length m.view.filled ≡ n.readers
  pub unfilled : (r : ℕ) → slice_index_or m.view.filled r false ≡ false
