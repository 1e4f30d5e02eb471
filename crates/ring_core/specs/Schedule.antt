-- The schedule of a ring as plain lists, and the part of one reader in it: its progress and its lanes. A ring
-- of preallocated places with one sequence per consumer, where the producer may not pass the slowest one
-- (LMAX Disruptor).
use Rattle.std.specs.Prelude.{ℕ, ◌+◌, ◌*◌, ◌%◌, Bool, false, List, [], length, replicate, Option, Some, None}
use Rattle.std.specs.Prelude.{slice_index, slice_index_or}
use Rattle.ring_core.specs.declared.event.Stage.{Stage}
use Rattle.ring_core.specs.declared.event.Stage.TheVariants.{Idle}

-- each list has one entry per reader, except lane: its entry r * places + p is the number of the row in the
-- lane of reader r at place p
pub record Schedule : Type 0 where
  pub places : ℕ
  pub total : ℕ
  pub head : ℕ
  pub filled : List Bool
  pub known : List (Option ℕ)
  pub cursor : List (Option ℕ)
  pub seen : List ℕ
  pub stage : List Stage
  pub lane : List (Option ℕ)
  pub taken : List (List ℕ)

abbrev pub readers : Schedule → ℕ
readers s = length s.cursor

-- a reader's cursor, the rows it took, the head it knows, and its cursor as the writer knows it; None: it
-- left
pub record Progress : Type 0 where
  pub known : Option ℕ
  pub cursor : Option ℕ
  pub seen : ℕ
  pub taken : List ℕ

-- a reader's lanes: whether the one for row head is filled, the reader's stage with the row at its cursor,
-- and for each row number the row stored at that number's place
pub record Lanes : Type 0 where
  pub filled : Bool
  pub stage : Stage
  pub row : ℕ → Option ℕ

-- the index of reader r's lane for row n among all lanes
abbrev pub lane_place : ℕ → ℕ → ℕ → ℕ
lane_place places r n = r * places + n % places

abbrev pub progress_of : Schedule → ℕ → Progress
progress_of s r = record {
  known = slice_index_or s.known r None;
  cursor = slice_index_or s.cursor r None;
  seen = slice_index s.seen r;
  taken = slice_index_or s.taken r [];
}

abbrev pub lanes_of : Schedule → ℕ → Lanes
lanes_of s r = record {
  filled = slice_index_or s.filled r false;
  stage = slice_index_or s.stage r Idle;
  row = λ n. slice_index_or s.lane (lane_place s.places r n) None;
}

-- no row has been filled or taken, and no reader has left
abbrev pub start : ℕ → ℕ → ℕ → Schedule
start places n total = record {
  places = places;
  total = total;
  head = 0;
  filled = replicate n false;
  known = replicate n (Some 0);
  cursor = replicate n (Some 0);
  seen = replicate n 0;
  stage = replicate n Idle;
  lane = replicate (n * places) None;
  taken = replicate n [];
}
