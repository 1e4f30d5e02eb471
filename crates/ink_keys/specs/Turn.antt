-- The state of a key reader, the effect of its turn, and the meaning of a turn's result.
use Rattle.std.specs.Prelude.{◌≡◌, ℕ, ◌+◌, ◌-◌, ◌<◌, ◌≤◌, false, [], Result, Ok, Err, length, map, slice_get}
use Rattle.std.specs.Prelude.{slice_index_or, sum_by}
use Rattle.std.specs.List.{range_with_len}
use Rattle.std.specs.Option.{option_map_or}
use Rattle.pr_base.specs.declared.ink.Ink.{Ink}
use Rattle.pr_base.specs.Row.{row_size}
use Rattle.plan_rows.specs.Rows.{RowPlanData, places_in}
use Rattle.tif_packbits.specs.Frame.{AreFrames, framed_row}
use Rattle.ring_rule.specs.declared.view.RingNumbers.{RingNumbers}
use Rattle.ring_lanes.specs.declared.answer.NotYet.{NotYet}
use Rattle.ring_lanes.specs.Reader.{ReaderState, Closes, GoesOver, IsNotYet}
use Rattle.ink_keys.specs.declared.key_end.KeyEnd.{KeyEnd}
use Rattle.ink_keys.specs.declared.key_end.KeyEnd.TheVariants.{Waiting, Finished}
use Rattle.ink_keys.specs.Counts.{CountsData, IsBounded, number_at, row_adds}

-- what contracts see of a key reader
pub record KeyReaderData : Type 0 where
  pub rows : RowPlanData
  pub counts : CountsData

-- P holds for the head if the result is Waiting
abbrev pub IfWaiting : KeyEnd → (ℕ → Type 0) → Type 0
IfWaiting (Waiting head) P = P head
IfWaiting Finished P = Unit {0}

-- P holds if the result is Finished
abbrev pub OnFinished : KeyEnd → Type 0 → Type 0
OnFinished (Waiting head) P = Unit {0}
OnFinished Finished P = P

-- bounds how many loads of a turn found no new row; every other load found at least one more row. At most
-- patience if the result is Waiting, fewer if it is Finished
abbrev pub WaitsNoMore : ℕ → ReaderState → ReaderState → KeyEnd → Type 0
WaitsNoMore patience old new (Waiting head) = new.loads + old.seen ≤ old.loads + patience + new.seen
WaitsNoMore patience old new Finished = new.loads + old.seen < old.loads + patience + new.seen

-- the rows of a ring are frames of rows of this width, as many as the ring passes
pub record AreRowsOf (width : ℕ) (ring : RingNumbers) : Type 0 where
  pub count : length ring.rows ≡ ring.total
  pub frames : AreFrames (row_size width) (map framed_row ring.rows) ring.rows

-- what row n of a ring adds to the count of key k of group g and ink i, by its place in the row plan
unfoldable pub row_part : RowPlanData → RingNumbers → ℕ → ℕ → ℕ → Ink → ℕ → ℕ → ℕ
row_part rows ring width keys g i k n =
    let row = framed_row (slice_index_or ring.rows n []) in
    let place = slice_get (places_in rows) n in
    option_map_or (λ at. row_adds width keys at.group at.ink row g i k) place 0

-- each count grew by what the rows in the range from..to add to it, each row once
pub record CountsRows (rows : RowPlanData) (ring : RingNumbers) (from to : ℕ) (old new : CountsData)
    : Type 0 where
  pub same : new ≡ record old { numbers = new.numbers }
  pub each : (g : ℕ) (i : Ink) (k : ℕ) → k < old.keys → number_at new g i k
      ≡ number_at old g i k
      + sum_by (row_part rows ring old.width old.keys g i k) (range_with_len from (to - from))

-- ---- row by row

-- a key reader and its reader's end
pub record Stage : Type 0 where
  pub key : KeyReaderData
  pub reader : ReaderState

abbrev pub stage : KeyReaderData → ReaderState → Stage
stage key reader = record { key = key; reader = reader }

-- the rows below the cursor are counted, and the next may be
pub record IsReady (s : Stage) : Type 0 where
  pub joined : s.reader.left ≡ false
  pub home : s.reader.held ≡ false
  pub total : s.reader.ring.total ≡ length (places_in s.key.rows)
  pub few : s.reader.ring.total ≤ 2684313600
  pub rows : AreRowsOf s.key.counts.width s.reader.ring
  pub bounded : IsBounded s.key.counts s.reader.cursor

-- the row at the cursor was counted and given back
pub record CountsOne (old new : Stage) : Type 0 where
  pub ready : IsReady new
  pub closes : Closes old.reader new.reader
  pub rows : new.key.rows ≡ old.key.rows
  pub counts : CountsRows old.key.rows old.reader.ring old.reader.cursor (old.reader.cursor + 1)
      old.key.counts new.key.counts

-- the row is not yet published
pub record Awaits (old new : Stage) (answer : NotYet) : Type 0 where
  pub not_yet : IsNotYet old.reader new.reader answer
  pub behind : old.reader.seen ≤ old.reader.cursor
  pub key : new.key ≡ old.key

-- the effect of a step, by its result
abbrev pub CountsNext : Stage → Stage → Result (Unit {0}) NotYet → Type 0
CountsNext old new (Ok done) = CountsOne old new
CountsNext old new (Err answer) = Awaits old new answer

-- the rows from the first cursor up to this one were counted, and in between, waits loads found no row
pub record Goes (first now : Stage) (waits : ℕ) : Type 0 where
  pub ready : IsReady now
  pub over : GoesOver first.reader now.reader waits
  pub rows : now.key.rows ≡ first.key.rows
  pub counts : CountsRows first.key.rows first.reader.ring first.reader.cursor now.reader.cursor
      first.key.counts now.key.counts
