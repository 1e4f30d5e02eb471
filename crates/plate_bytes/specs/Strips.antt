-- The strips of a plate that grows row by row.
use Rattle.std.specs.Prelude.{◌≡◌, ℕ, ◌+◌, ◌*◌, ◌/◌, ◌==◌, ◌<◌, ◌≤◌, if◌then◌else◌, List, length, replicate}
use Rattle.std.specs.Prelude.{slice_index, slice_set, sum}
use Rattle.tif_plate.specs.Plate.{IsSide, IsDpi, rows_each, strip_count}
use Rattle.tif_plate.specs.Tail.{tail_room}
use Rattle.tif_plate.specs.declared.sides.Sides.{Sides}

-- the model of the strips of a plate: its sides, the y of its next row, the byte counts of its strips, and
-- the buffer for the bytes after its rows
pub record StripState : Type 0 where
  pub sides : Sides
  pub next : ℕ
  pub counts : List ℕ
  pub room : List ℕ

-- the strips of a plate with these sides, y of the next row, byte counts and buffer
abbrev pub strips_of : Sides → ℕ → List ℕ → List ℕ → StripState
strips_of sides next counts room = record { sides = sides; next = next; counts = counts; room = room }

-- the byte counts of a plate's strips after its row y was added to a strip; a plate begins with zeros
abbrev pub counted : ℕ → ℕ → ℕ → List ℕ → List ℕ
counted y strip bytes counts =
    let old = if y == 0 then replicate (length counts) 0 else counts in
    slice_set old strip (slice_index old strip + bytes)

-- the y of the row after row y of a plate: 0 after the last
abbrev pub row_after : ℕ → ℕ → ℕ
row_after height y = if y + 1 == height then 0 else y + 1

-- the strips after the next row, of this many packed bytes
abbrev pub with_row : ℕ → StripState → StripState
with_row bytes old = record old {
  next = row_after old.sides.height old.next;
  counts = counted old.next (old.next / rows_each old.sides.width) bytes old.counts;
}

-- the strips of a plate without rows
abbrev pub without_rows : StripState → StripState
without_rows old = record old { next = 0; counts = replicate (length old.counts) 0 }

-- the invariant of strips; no packed row has more than 8256 bytes
pub record AreStrips (strips : StripState) : Type 0 where
  pub width : IsSide strips.sides.width
  pub height : IsSide strips.sides.height
  pub dpi : IsDpi strips.sides.dpi
  pub next : strips.next < strips.sides.height
  pub count : length strips.counts ≡ strip_count strips.sides.width strips.sides.height
  pub room : tail_room strips.sides.width strips.sides.height ≤ length strips.room
  pub all : sum strips.counts ≤ strips.sides.height * 8256
  pub begun : 0 < strips.next → sum strips.counts ≤ strips.next * 8256
