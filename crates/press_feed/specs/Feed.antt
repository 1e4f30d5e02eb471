-- The state of a feed.
use Rattle.std.specs.Prelude.{◌≡◌, ℕ, List, Option, drop}
use Rattle.std.specs.Option.{ForSome}
use Rattle.plan_json.specs.Plan.{IsPlan}
use Rattle.press_feed.specs.Band.{BandData}
use Rattle.press_feed.specs.SideBand.{SideBandData}
use Rattle.press_job.specs.Job.{JobData}
use Rattle.press_job.specs.Rows.{plate_frames}

-- a job, and the number of the next row
pub record FeedData : Type 0 where
  pub job : JobData
  pub next : ℕ

-- the rows still to come
abbrev pub rows_left : FeedData → List (List ℕ)
rows_left feed = drop feed.next (plate_frames feed.job.plan feed.job.files)

-- ---- the invariant of a feed

-- the maker of rows and the bands belong to the feed's job
pub record IsFeed (job maker : JobData) (band : BandData) (wide : Option SideBandData) (next : ℕ)
    : Type 0 where
  pub plan_is : IsPlan job.plan
  pub maker_is : maker ≡ job
  pub band_is : band.job ≡ job
  pub wide_is : ForSome wide (λ w. w.job ≡ maker)
