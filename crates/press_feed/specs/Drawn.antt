-- Rows of a page, drawn in an ink at the place of their side on the plate. Each buffer of rows states by
-- itself what it holds, so that a row is used only for what it shows, whichever thread drew it.
use Rattle.std.specs.Prelude.{◌≡◌, ℕ, ◌+◌, ◌/◌, ◌%◌, ◌<◌, ◌≤◌, false, List, [], length, slice_index_or}
use Rattle.std.specs.List.{All}
use Rattle.pr_base.specs.Bits.{bit_at}
use Rattle.pr_base.specs.declared.ink.Ink.{Ink}
use Rattle.pr_base.specs.Row.{row_size}
use Rattle.plan_json.specs.Data.{PlanData}
use Rattle.press_job.specs.Job.{JobData}
use Rattle.press_job.specs.Printing.{page_bit}
use Rattle.press_feed.specs.ChainRows.{ChainData}
use Rattle.press_feed.specs.declared.side.Side.{Side}
use Rattle.press_feed.specs.Sides.{left_edge}

-- ---- the bytes of a plate's row that a side covers

-- the first of them
abbrev pub side_byte : PlanData → Side → ℕ
side_byte plan side = left_edge plan side / 8

-- the bit of the page's first pixel in that byte
abbrev pub side_bit : PlanData → Side → ℕ
side_bit plan side = left_edge plan side % 8

-- how many they are
abbrev pub side_size : PlanData → Side → ℕ
side_size plan side = row_size (side_bit plan side + plan.page_width)

-- nothing is set beside the page
pub record IsClearBeside (plan : PlanData) (side : Side) (bytes : List ℕ) : Type 0 where
  pub long : length bytes ≡ side_size plan side
  pub before : (x : ℕ) → x < side_bit plan side → bit_at bytes x ≡ false
  pub behind : (x : ℕ) → side_bit plan side + plan.page_width ≤ x → bit_at bytes x ≡ false

-- the bytes show row y of a page in an ink
pub record ShowsRowOf (job : JobData) (side : Side) (page : ℕ) (ink : Ink) (y : ℕ) (bytes : List ℕ)
    : Type 0 where
  pub each : (x : ℕ) → x < job.plan.page_width
      → bit_at bytes (side_bit job.plan side + x) ≡ page_bit job.plan job.files page ink x y

-- ---- the rows that are drawn

-- rows of a page in an ink: from `first` on, `count` of them, in room for `room`
pub record DrawnData : Type 0 where
  pub job : JobData
  pub side : Side
  pub ink : Ink
  pub page : ℕ
  pub first : ℕ
  pub count : ℕ
  pub room : ℕ

-- no row of an ink, in this much room
abbrev pub blank_rows : JobData → Side → ℕ → Ink → DrawnData
blank_rows job side room ink = record {
  job = job;
  side = side;
  ink = ink;
  page = 0;
  first = 0;
  count = 0;
  room = room;
}

-- the first buffers show these rows, and nothing beside the page
pub record AreDrawn (job : JobData) (side : Side) (page : ℕ) (ink : Ink) (first count : ℕ)
    (rows : List (List ℕ)) : Type 0 where
  pub within : count ≤ length rows
  pub few : length rows ≤ 65536
  pub clear : All (IsClearBeside job.plan side) rows
  pub each : (k : ℕ) → k < count → ShowsRowOf job side page ink (first + k) (slice_index_or rows k [])

-- drawn rows have row y of a page
pub record HasRow (drawn : DrawnData) (page y : ℕ) : Type 0 where
  pub page_is : drawn.page ≡ page
  pub from : drawn.first ≤ y
  pub within : y < drawn.first + drawn.count

-- the same after further rows
abbrev pub behind_rows : ℕ → DrawnData → DrawnData
behind_rows count drawn = record drawn { count = drawn.count + count }

-- the same with no row, before row `first` of a page
abbrev pub before_row : ℕ → ℕ → DrawnData → DrawnData
before_row page first drawn = record drawn { page = page; first = first; count = 0 }

-- of the last eight rows that a chain took, number k is the next one to be drawn
pub record HasTaken (drawn : DrawnData) (k : ℕ) (chain : ChainData) : Type 0 where
  pub job_is : chain.job ≡ drawn.job
  pub ink_is : chain.ink ≡ drawn.ink
  pub page_is : chain.page ≡ drawn.page
  pub taken : 8 ≤ chain.count
  pub count_is : chain.count + k ≡ drawn.first + drawn.count + 8

-- rows of the same job, side and ink, in as much room
pub record IsLike (one other : DrawnData) : Type 0 where
  pub job_is : other.job ≡ one.job
  pub side_is : other.side ≡ one.side
  pub ink_is : other.ink ≡ one.ink
  pub room_is : other.room ≡ one.room
