-- A row of a plate, composed of the two pages and the marks.
use Rattle.std.specs.Prelude.{◌≡◌, ℕ, ◌-◌, ◌&&◌, ◌||◌, nat_lt, nat_le, if◌then◌else◌, List}
use Rattle.std.specs.Prelude.{Option, Some, None}
use Rattle.pr_base.specs.Bits.{bit_at}
use Rattle.pr_base.specs.declared.ink.Ink.{Ink}
use Rattle.plan_json.specs.Data.{PlanData}
use Rattle.plan_pages.specs.Plate.{shape_of_plate}
use Rattle.plan_rows.specs.declared.group.Group.{Group}
use Rattle.press_job.specs.Job.{JobData}
use Rattle.press_job.specs.Rows.{placed_bit}

-- the row of its pages that row y of a plate shows, if it shows one
abbrev pub page_row : PlanData → ℕ → Option ℕ
page_row plan y =
    let top = (shape_of_plate plan).top_y in
    if nat_le top y && nat_lt (y - top) plan.page_height then Some (y - top) else None

-- the pixels of a row of a plate are those of its two pages
pub record ShowsPages (plan : PlanData) (files : List (List ℕ)) (left right : ℕ) (ink : Ink) (y : ℕ)
    (bits : List ℕ) : Type 0 where
  pub each : (x : ℕ) → bit_at bits x
      ≡ (placed_bit plan files left (shape_of_plate plan).left_x ink x y || placed_bit plan files right
      (shape_of_plate plan).right_x ink x y)

-- a row of a plate that shows row y of the pages of a group, in an ink
abbrev pub DrawsPages : JobData → Group → Ink → ℕ → List ℕ → Type 0
DrawsPages job group ink y bits = (row : ℕ) → page_row job.plan row ≡ Some y
    → ShowsPages job.plan job.files group.left group.right ink row bits
