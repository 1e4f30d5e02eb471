-- The bits of a plate, its rows, and all rows of a job in order.
use Rattle.std.specs.Prelude.{ℕ, ◌+◌, ◌-◌, Bool, ◌&&◌, ◌||◌, List, map, slice_get}
use Rattle.std.specs.Option.{option_map_or}
use Rattle.pr_base.specs.Bits.{packed_row}
use Rattle.pr_base.specs.declared.ink.Ink.{Ink}
use Rattle.tif_packbits.specs.Frame.{frame_of}
use Rattle.plan_json.specs.Data.{PlanData, plate_width}
use Rattle.plan_pages.specs.Plate.{is_marked_at, shape_of_plate}
use Rattle.plan_pages.specs.Span.{in_span}
use Rattle.plan_rows.specs.declared.group.Group.{Group}
use Rattle.plan_rows.specs.declared.place.RowPlace.{RowPlace}
use Rattle.plan_rows.specs.Groups.{groups_of}
use Rattle.plan_rows.specs.Rows.{row_places}
use Rattle.press_job.specs.Printing.{page_bit}

-- ---- a plate

-- whether a page with this left edge covers a pixel of the plate
abbrev pub covers_pixel : PlanData → ℕ → ℕ → ℕ → Bool
covers_pixel plan left_x x y =
    let top_y = (shape_of_plate plan).top_y in
    in_span left_x (left_x + plan.page_width) x && in_span top_y (top_y + plan.page_height) y

-- what a page with this left edge prints at a pixel of the plate; nothing outside the page
abbrev pub placed_bit : PlanData → List (List ℕ) → ℕ → ℕ → Ink → ℕ → ℕ → Bool
placed_bit plan files page left_x ink x y =
    covers_pixel plan left_x x y && page_bit plan files page ink (x - left_x) (y -
    (shape_of_plate plan).top_y)

-- whether a plate of two pages prints an ink at a pixel: a mark covers the pixel, or the page that covers it
-- prints there
unfoldable pub plate_bit : PlanData → List (List ℕ) → ℕ → ℕ → Ink → ℕ → ℕ → Bool
plate_bit plan files left right ink x y =
    let shape = shape_of_plate plan in
    is_marked_at plan ink x y || placed_bit plan files left shape.left_x ink x y
    || placed_bit plan files right shape.right_x ink x y

-- row y of a plate of two pages, with zero padding bits
abbrev pub plate_row : PlanData → List (List ℕ) → ℕ → ℕ → Ink → ℕ → List ℕ
plate_row plan files left right ink y = packed_row (plate_width plan)
    (λ x. plate_bit plan files left right ink x y)

-- ---- all rows

-- the left and the right page of the group with this index
abbrev pub left_of : List Group → ℕ → ℕ
left_of groups index = option_map_or (λ group. group.left) (slice_get groups index) 0

abbrev pub right_of : List Group → ℕ → ℕ
right_of groups index = option_map_or (λ group. group.right) (slice_get groups index) 0

-- the row at a place
abbrev pub row_at_place : PlanData → List (List ℕ) → List Group → RowPlace → List ℕ
row_at_place plan files groups place =
    plate_row plan files (left_of groups place.group) (right_of groups place.group) place.ink place.y

-- all plate rows of a plan in order
unfoldable pub plate_rows : PlanData → List (List ℕ) → List (List ℕ)
plate_rows plan files = map (row_at_place plan files (groups_of plan)) (row_places plan)

-- their frames
abbrev pub plate_frames : PlanData → List (List ℕ) → List (List ℕ)
plate_frames plan files = map frame_of (plate_rows plan files)
