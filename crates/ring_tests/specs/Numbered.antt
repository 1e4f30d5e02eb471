-- Rows of two bytes that encode their number, which the tests pass through a ring, and the state of a seat
-- between the calls of a test.
use Rattle.std.specs.Prelude.{◌≡◌, ◌≢◌, ℕ, ◌+◌, ◌/◌, ◌%◌, ◌<◌, false, nat_eq, if◌then◌else◌, List, [], ◌∷◌}
use Rattle.std.specs.Prelude.{length, map, slice_index, slice_index_or}
use Rattle.std.specs.List.{range_with_len}
use Rattle.ring_rule.specs.declared.view.WriterView.{WriterView}
use Rattle.ring_rule.specs.declared.view.ReaderView.{ReaderView}
use Rattle.ring_rule.specs.Views.{left_word, ring_of}
use Rattle.ring_rule.specs.Plays.{filled_lane}
use Rattle.ring_lanes.specs.Writer.{WriterState}
use Rattle.ring_lanes.specs.Reader.{ReaderState}

-- the bytes of row n
abbrev pub numbered_row : ℕ → List ℕ
numbered_row n = n % 256 ∷ n / 256 % 256 ∷ []

-- the rows with numbers below `total`
unfoldable pub numbered_rows : ℕ → List (List ℕ)
numbered_rows total = map numbered_row (range_with_len 0 total)

-- the writer published `head` rows, and filled no lane with the next one
pub record IsIdleWriter (places readers total head : ℕ) (w : WriterView) : Type 0 where
  pub ring : w.ring ≡ ring_of places readers (numbered_rows total) 2
  pub at : w.head ≡ head
  pub known : length w.known ≡ readers
  pub filled : length w.filled ≡ readers
  pub empty : (r : ℕ) → r < readers → slice_index_or w.filled r false ≡ false

-- the reader is joined, took this many rows, and holds none
pub record IsIdleReader (total taken : ℕ) (x : ReaderView) : Type 0 where
  pub rows : x.ring.rows ≡ numbered_rows total
  pub left : x.left ≡ false
  pub out : x.out ≡ false
  pub count : x.taken ≡ taken

-- the writer looked at a reader with this cursor word, which says that the reader left, or which leaves room
-- for row `head`
pub record IsOffered (places readers total head : ℕ) (r cursor : ℕ) (w : WriterView) : Type 0 where
  pub ring : w.ring ≡ ring_of places readers (numbered_rows total) 2
  pub at : w.head ≡ head
  pub in_range : r < readers
  pub row : head < total
  pub known : slice_index w.known r ≡ cursor
  pub room : cursor ≢ left_word → head < cursor + places
  pub unfilled : slice_index_or w.filled r false ≡ false

-- the lane of the reader is filled, unless the reader left
abbrev pub served : ℕ → ℕ → WriterView → WriterView
served cursor r w = if nat_eq cursor left_word then w else filled_lane r w

-- the writer published this many rows
pub record IsFeeding (total head : ℕ) (w : WriterState) : Type 0 where
  pub rows : w.ring.rows ≡ numbered_rows total
  pub count : w.ring.total ≡ length w.ring.rows
  pub at : w.head ≡ head

-- the reader is joined, took and gave back this many rows, and holds none
pub record IsDrawing (total cursor : ℕ) (x : ReaderState) : Type 0 where
  pub rows : x.ring.rows ≡ numbered_rows total
  pub left : x.left ≡ false
  pub held : x.held ≡ false
  pub at : x.cursor ≡ cursor
