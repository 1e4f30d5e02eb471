-- The views of a ring's seats: their actors, their initial values, and the views of actors that have no seat
-- yet.
use Rattle.std.specs.Prelude.{ℕ, zero, suc, ◌+◌, false, nat_eq, if◌then◌else◌, List, [], ◌∷◌, ◌++◌, length}
use Rattle.std.specs.Prelude.{replicate, Option, Some, None}
use Rattle.ring_rule.specs.declared.view.RingNumbers.{RingNumbers}
use Rattle.ring_rule.specs.declared.view.WriterView.{WriterView}
use Rattle.ring_rule.specs.declared.view.ReaderView.{ReaderView}
use Rattle.ring_rule.specs.declared.view.View.{View}
use Rattle.ring_rule.specs.declared.view.View.TheVariants.{Writer, Reader, HeadNote, CursorNote, Spent}

-- the numbers of a ring of these rows
abbrev pub ring_of : ℕ → ℕ → List (List ℕ) → ℕ → RingNumbers
ring_of places readers rows size = record {
  places = places;
  readers = readers;
  total = length rows;
  row_len = size;
  rows = rows;
}

-- the cursor word of a reader that left, 2^64 - 1
abbrev pub left_word : ℕ
left_word = 18446744073709551615

-- the cursor that a word shows
abbrev pub cursor_in : ℕ → Option ℕ
cursor_in n = if nat_eq n left_word then None else Some n

-- the cursor word of a reader
abbrev pub word_of : ReaderView → ℕ
word_of x = if x.left then left_word else x.taken

-- 0, 1, 2 and so on, below n
abbrev pub up_to : ℕ → List ℕ
up_to zero = []
up_to (suc n) = up_to n ++ n ∷ []

-- the writer's initial view, once it has made n readers
abbrev pub counted_writer : RingNumbers → ℕ → WriterView
counted_writer g n = record {
  ring = g;
  head = 0;
  made = n;
  known = replicate g.readers 0;
  loads = replicate g.readers 0;
  filled = replicate g.readers false;
  hand = None;
  told = None;
}

abbrev pub new_writer : RingNumbers → WriterView
new_writer g = counted_writer g 0

abbrev pub new_reader : RingNumbers → ℕ → ReaderView
new_reader g r = record {
  ring = g;
  number = r;
  taken = 0;
  left = false;
  out = false;
  seen = 0;
  loads = 0;
  told = None;
}

-- the actor of a view: the writer is 0, reader r is r + 1; a note and a spent view no longer act
abbrev pub actor_of : View → Option ℕ
actor_of (Writer w) = Some 0
actor_of (Reader x) = Some (x.number + 1)
actor_of (HeadNote n) = None
actor_of (CursorNote n) = None
actor_of Spent = None

-- the view if it is the writer's, otherwise other
abbrev pub writer_or : View → WriterView → WriterView
writer_or (Writer w) other = w
writer_or (Reader x) other = other
writer_or (HeadNote n) other = other
writer_or (CursorNote n) other = other
writer_or Spent other = other

-- the view if it is reader r's, otherwise other
abbrev pub reader_or : ℕ → View → ReaderView → ReaderView
reader_or r (Writer w) other = other
reader_or r (Reader x) other = if nat_eq x.number r then x else other
reader_or r (HeadNote n) other = other
reader_or r (CursorNote n) other = other
reader_or r Spent other = other

-- the writer's view, or its initial one
abbrev pub writer_of : RingNumbers → List View → WriterView
writer_of g [] = new_writer g
writer_of g (v ∷ vs) = writer_or v (writer_of g vs)

-- the view of reader r, or its initial one
abbrev pub reader_of : RingNumbers → List View → ℕ → ReaderView
reader_of g [] r = new_reader g r
reader_of g (v ∷ vs) r = reader_or r v (reader_of g vs r)

-- the readers' views with y in the place of its reader's
abbrev pub put_reader : ReaderView → (ℕ → ReaderView) → ℕ → ReaderView
put_reader y readers r = if nat_eq y.number r then y else readers r
