-- The two pages of a plate, shown side by side.
use Rattle.std.specs.Prelude.{◌≡◌, ℕ, List}
use Rattle.plan_json.specs.Plan.{IsPlan}
use Rattle.plan_rows.specs.declared.group.Group.{Group}
use Rattle.press_feed.specs.declared.screener.Screener.{Screener}
use Rattle.press_feed.specs.declared.side.Side.{Side}
use Rattle.press_feed.specs.declared.side.Side.TheVariants.{Left, Right}
use Rattle.press_feed.specs.Screener.{AreScreeners}
use Rattle.press_feed.specs.Sides.{SideData}
use Rattle.press_job.specs.Job.{JobData}

-- two pages of a job, and how many of their rows were made
pub record PairData : Type 0 where
  pub job : JobData
  pub left : ℕ
  pub right : ℕ
  pub shown : ℕ

-- the pages of a group, of which this many rows were made
abbrev pub of_group : Group → ℕ → PairData → PairData
of_group group shown pair = record pair { left = group.left; right = group.right; shown = shown }

-- ---- the invariant of two pages

-- a side belongs to a job
pub record IsOf (job : JobData) (side : Side) (pages : SideData) : Type 0 where
  pub plan_is : pages.plan ≡ job.plan
  pub files_are : pages.files ≡ job.files
  pub side_is : pages.side ≡ side

-- as many rows were made on both sides, and each ink has its screener
pub record IsPair (job : JobData) (left right : SideData) (screeners : List Screener) : Type 0 where
  pub plan_is : IsPlan job.plan
  pub left_is : IsOf job Left left
  pub right_is : IsOf job Right right
  pub level : left.shown ≡ right.shown
  pub screeners_are : AreScreeners job.plan screeners
