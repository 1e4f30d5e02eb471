-- The maker of a job's frames.
use Rattle.std.specs.Prelude.{◌≡◌, ℕ, false, List, Option, None, length}
use Rattle.std.specs.Option.{ForSome}
use Rattle.pr_base.specs.declared.ink.Ink.{Ink}
use Rattle.pr_base.specs.Row.{row_size}
use Rattle.plan_json.specs.Data.{plate_width}
use Rattle.plan_json.specs.Plan.{IsPlan}
use Rattle.press_feed.specs.Pair.{PairData}
use Rattle.press_feed.specs.Screener.{is_diffused}
use Rattle.press_feed.specs.SideRows.{AreInAll, SideRowsData}
use Rattle.press_feed.specs.declared.side.Side.{Side}
use Rattle.press_feed.specs.declared.side.Side.TheVariants.{Left, Right}
use Rattle.press_job.specs.Job.{JobData}

-- the rows of a side of a job, in all inks
pub record IsBlockOf (job : JobData) (side : Side) (rows : SideRowsData) : Type 0 where
  pub job_is : rows.job ≡ job
  pub side_is : rows.side ≡ side
  pub all : AreInAll rows.inks

-- and those of both sides
pub record AreBlocks (job : JobData) (left right : SideRowsData) : Type 0 where
  pub left_is : IsBlockOf job Left left
  pub right_is : IsBlockOf job Right right

-- the pages of a job, row by row, and in blocks if an ink is diffused
pub record AreSources (job : JobData) (pages : PairData) (blocks : Option JobData) : Type 0 where
  pub pages_are : pages.job ≡ job
  pub blocks_are : ForSome blocks (λ own. own ≡ job)
  pub tiled : blocks ≡ None → (ink : Ink) → is_diffused job.plan ink ≡ false

-- both, and a buffer for a row of a plate
pub record IsMaker (job : JobData) (pages : PairData) (blocks : Option JobData) (bits : List ℕ) : Type 0 where
  pub plan_is : IsPlan job.plan
  pub sources : AreSources job pages blocks
  pub long : length bits ≡ row_size (plate_width job.plan)
