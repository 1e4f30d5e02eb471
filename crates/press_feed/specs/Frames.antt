-- Frames that are packed from drawn rows.
use Rattle.std.specs.Prelude.{◌≡◌, ℕ, ◌≤◌, List, length}
use Rattle.std.specs.List.{All}
use Rattle.pr_base.specs.Row.{row_size}
use Rattle.plan_json.specs.Data.{plate_width}
use Rattle.press_job.specs.Job.{JobData}
use Rattle.press_feed.specs.Band.{FrameData, HoldsFrom, IsShare}
use Rattle.press_feed.specs.Drawn.{DrawnData}

-- buffers in which those frames that were made are those of a job from this one on, and one for a row of a
-- plate
pub record AreFrames (job : JobData) (first : ℕ) (frames : List FrameData) (bits : List ℕ) : Type 0 where
  pub few : length frames ≤ 65536
  pub share : IsShare job frames
  pub held : HoldsFrom job first frames
  pub long : length bits ≡ row_size (plate_width job.plan)

-- drawn rows of a job
abbrev pub AreOf : JobData → List DrawnData → Type 0
AreOf job rows = All (λ drawn. drawn.job ≡ job) rows
