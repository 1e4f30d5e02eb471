-- A row of a plate, joined from rows of its sides.
use Rattle.std.specs.Prelude.{◌≡◌, ℕ, ◌+◌, ◌<◌, ◌≤◌, List, bit_or, length, slice_index}
use Rattle.pr_base.specs.declared.ink.Ink.{Ink}
use Rattle.press_job.specs.Job.{JobData}
use Rattle.press_feed.specs.declared.side.Side.{Side}
use Rattle.press_feed.specs.Drawn.{DrawnData}

-- rows of a side of a job, in an ink
pub record IsRowsOf (job : JobData) (side : Side) (ink : Ink) (drawn : DrawnData) : Type 0 where
  pub job_is : drawn.job ≡ job
  pub side_is : drawn.side ≡ side
  pub ink_is : drawn.ink ≡ ink

-- bytes in which the bits of others are set besides their own
pub record IsUnion (row old new : List ℕ) : Type 0 where
  pub each : (k : ℕ) → k < length row → slice_index new k ≡ bit_or (slice_index old k) (slice_index row k)

-- a row in which the bits of another one are set besides its own, from a byte on
pub record IsJoined (row : List ℕ) (at : ℕ) (old new : List ℕ) : Type 0 where
  pub inside : (k : ℕ) → k < length row
      → slice_index new (at + k) ≡ bit_or (slice_index old (at + k)) (slice_index row k)
  pub before : (k : ℕ) → k < at → slice_index new k ≡ slice_index old k
  pub behind : (k : ℕ) → at + length row ≤ k → slice_index new k ≡ slice_index old k
