-- Rows of a page, as they are printed, that are held at once.
use Rattle.std.specs.Prelude.{◌≡◌, ℕ, ◌+◌, ◌<◌, ◌≤◌, List, length, slice_index, slice_index_or}
use Rattle.std.specs.List.{All}
use Rattle.pr_base.specs.declared.ink.Ink.{Ink}
use Rattle.page_layers.specs.Inks.{HasWidth, Planes, plane_of}
use Rattle.page_layers.specs.Page.{Page}
use Rattle.plan_json.specs.Data.{PlanData}
use Rattle.plan_json.specs.Plan.{IsPlan}
use Rattle.press_job.specs.Job.{JobData}
use Rattle.press_job.specs.Layers.{planned_layers}
use Rattle.press_job.specs.Printing.{printed_row}
use Rattle.press_feed.specs.Sides.{page_before}

-- the current page, and which of its rows are held: `count` from row `first` on
pub record HeldData : Type 0 where
  pub job : JobData
  pub page : ℕ
  pub first : ℕ
  pub count : ℕ

-- at the top of a page
abbrev pub top_of : ℕ → HeldData → HeldData
top_of page held = record held { page = page; first = 0; count = 0 }

-- the same page, with its next rows held in place of those before them
abbrev pub next_rows : ℕ → HeldData → HeldData
next_rows count held = record held { first = held.first + held.count; count = count }

-- ---- the invariant

-- the planes are those of row y of a page
pub record ShowsPlanes (job : JobData) (page y : ℕ) (planes : Planes) : Type 0 where
  pub each : (ink : Ink) → plane_of planes ink ≡ printed_row job.plan job.files page ink y

-- a page before the row after those held, in buffers for any page of the plan, and the planes of the rows
-- held. Row k is at its own place, or shares that of a row before it
pub record AreHeldRows (job : JobData) (page_rows : Page) (page first count : ℕ) (tones : PlanData)
    (rows : List Planes) (places : List ℕ) : Type 0 where
  pub plan_is : IsPlan job.plan
  pub rows_are : page_rows ≡ page_before job.plan job.files page_rows.room page (first + count)
  pub room : (other : ℕ) → length (planned_layers job.plan other) ≤ page_rows.room
  pub within : first + count ≤ job.plan.page_height
  pub tones_are : tones ≡ job.plan
  pub few : count ≤ 8
  pub eight : length rows ≡ 8
  pub wide : All (λ planes. HasWidth planes job.plan.page_width) rows
  pub eight_places : length places ≡ 8
  pub places_are : (k : ℕ) → k < 8 → slice_index places k ≤ k
  pub shows : (k : ℕ) (d : Planes) → k < count
      → ShowsPlanes job page (first + k) (slice_index_or rows (slice_index places k) d)
