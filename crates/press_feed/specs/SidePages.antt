-- The invariant of a side's pages.
use Rattle.std.specs.Prelude.{◌≡◌, ℕ, ◌-◌, ◌<◌, ◌≤◌, length}
use Rattle.pr_base.specs.declared.ink.Ink.{Ink}
use Rattle.page_layers.specs.Inks.{HasWidth, Planes, plane_of}
use Rattle.page_layers.specs.Page.{Page}
use Rattle.plan_json.specs.Data.{PlanData}
use Rattle.plan_json.specs.Plan.{IsPlan}
use Rattle.press_feed.specs.declared.side.Side.{Side}
use Rattle.press_job.specs.Job.{JobData}
use Rattle.press_job.specs.Layers.{planned_layers}
use Rattle.press_job.specs.Printing.{printed_row}
use Rattle.press_feed.specs.Sides.{SideData, page_before}

-- a side whose page has no row made yet
abbrev pub opened_side : JobData → Side → SideData
opened_side job side = record {
  plan = job.plan;
  files = job.files;
  side = side;
  page = 0;
  shown = 0;
}

-- the side has made some rows of a page, from the first on: the planes are those of the last one, and the
-- page is before the next one, in buffers for any page of the plan
pub record IsSide (job : JobData) (rows : Page) (page shown : ℕ) (tones : PlanData)
    (planes : Planes) : Type 0 where
  pub plan_is : IsPlan job.plan
  pub rows_are : rows ≡ page_before job.plan job.files rows.room page shown
  pub room : (other : ℕ) → length (planned_layers job.plan other) ≤ rows.room
  pub within : shown ≤ job.plan.page_height
  pub tones_are : tones ≡ job.plan
  pub wide : HasWidth planes job.plan.page_width
  pub shows : 0 < shown → (ink : Ink) → plane_of planes ink ≡ printed_row job.plan job.files page ink
      (shown - 1)
