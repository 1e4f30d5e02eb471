-- A band that several threads draw and pack. Nothing here says which rows a buffer holds: each buffer does.
use Rattle.std.specs.Prelude.{◌≡◌, ◌≢◌, ℕ, ◌+◌, ◌%◌, ◌<◌, ◌≤◌, List, length}
use Rattle.std.specs.List.{All}
use Rattle.plan_rows.specs.Groups.{groups_of}
use Rattle.press_job.specs.Job.{JobData}
use Rattle.press_feed.specs.declared.band_rows.BandRows.{BandRows}
use Rattle.press_feed.specs.Drawn.{DrawnData}
use Rattle.press_feed.specs.Frames.{AreOf}
use Rattle.press_feed.specs.SideRows.{HaveRoom, SideRowsData}

-- the job, and the most rows of its pages that a step draws
pub record SideBandData : Type 0 where
  pub job : JobData
  pub height : ℕ

-- ---- the rows of a step

-- at most `height` rows of the pages of a group: whole blocks of eight, or as far as the pages have them
pub record AreRowsOf (job : JobData) (height : ℕ) (rows : BandRows) : Type 0 where
  pub group_is : rows.group < length (groups_of job.plan)
  pub blocks : rows.first % 8 ≡ 0
  pub within : rows.first + rows.count ≤ job.plan.page_height
  pub onward : rows.first + rows.count < job.plan.page_height → rows.count % 8 ≡ 0
  pub last : rows.count % 8 ≢ 0 → rows.first + rows.count ≡ job.plan.page_height
  pub few : rows.count ≤ height

-- ---- what a thread has

-- what a thread draws and packs is of one job
pub record IsBandPart (job rows frames : JobData) : Type 0 where
  pub rows_are : rows ≡ job
  pub frames_are : frames ≡ job

-- what a thread draws is of this job, in room for `height` rows
pub record IsPartOf (job : JobData) (height : ℕ) (part : SideRowsData) : Type 0 where
  pub job_is : part.job ≡ job
  pub room : HaveRoom height part.inks

-- rows that it may draw
pub record AreRowsFor (part : SideRowsData) (rows : BandRows) : Type 0 where
  pub rows_are : AreRowsOf part.job rows.count rows
  pub room : HaveRoom rows.count part.inks

-- the same job, in as much room
pub record IsKept (old new : SideRowsData) : Type 0 where
  pub job_is : new.job ≡ old.job
  pub room : (height : ℕ) → HaveRoom height old.inks → HaveRoom height new.inks

-- ---- the invariant of a band

pub record IsSideBand (job : JobData) (threads height each : ℕ) (parts : List SideRowsData)
    (drawn : List DrawnData) : Type 0 where
  pub some_threads : 0 < threads
  pub some : 0 < each
  pub few : length parts ≤ 65536
  pub blocks : height % 8 ≡ 0
  pub parts_are : All (IsPartOf job height) parts
  pub drawn_are : AreOf job drawn
