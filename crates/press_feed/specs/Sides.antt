-- The pages on one side of the plates: which they are, and how far they were read.
use Rattle.std.specs.Prelude.{ℕ, ◌+◌, List}
use Rattle.page_layers.specs.Page.{Page}
use Rattle.plan_json.specs.Data.{PlanData}
use Rattle.plan_pages.specs.Plate.{shape_of_plate}
use Rattle.plan_rows.specs.declared.group.Group.{Group}
use Rattle.press_feed.specs.declared.side.Side.{Side}
use Rattle.press_feed.specs.declared.side.Side.TheVariants.{Left, Right}
use Rattle.press_job.specs.Layers.{layers_of}

-- the page of a group on a side
abbrev pub page_on : Side → Group → ℕ
page_on Left group = group.left
page_on Right group = group.right

-- the left edge of a side's pages on the plate
abbrev pub left_edge : PlanData → Side → ℕ
left_edge plan Left = (shape_of_plate plan).left_x
left_edge plan Right = (shape_of_plate plan).right_x

-- ---- the current page and row

-- the current page of the side, and how many of its rows were made
pub record SideData : Type 0 where
  pub plan : PlanData
  pub files : List (List ℕ)
  pub side : Side
  pub page : ℕ
  pub shown : ℕ

-- the same side at the top of a page
abbrev pub at_top : ℕ → SideData → SideData
at_top page side = record side { page = page; shown = 0 }

-- the same side after a row of its page
abbrev pub behind_row : ℕ → SideData → SideData
behind_row y side = record side { shown = y + 1 }

-- ---- the invariant of a side

-- a page of the plan before row y, in buffers for this many layers
abbrev pub page_before : PlanData → List (List ℕ) → ℕ → ℕ → ℕ → Page
page_before plan files room page y =
    record {
      layers = layers_of plan files page;
      width = plan.page_width;
      height = plan.page_height;
      next = y;
      room = room;
    }
