-- The positions of the pages and the marks of a plate, in pixels from its top left corner.
use Rattle.std.specs.Prelude.{ℕ, ◌+◌, Bool, false, ◌&&◌, nat_le, nat_lt, slice_index, slice_index_or}
use Rattle.std.specs.List.{list_any}
use Rattle.pr_base.specs.declared.ink.Ink.{Ink}
use Rattle.plan_parts.specs.Data.{MarkData}
use Rattle.plan_json.specs.Data.{PlanData, plate_width, plate_height}
use Rattle.plan_pages.specs.declared.shape.PlateShape.{PlateShape}
use Rattle.pr_base.specs.Ink.{slot_of}

-- the sides of a plate, and the positions of its two pages
abbrev pub shape_of_plate : PlanData → PlateShape
shape_of_plate plan = record {
  width = plate_width plan;
  height = plate_height plan;
  left_x = slice_index plan.margins 0;
  right_x = slice_index plan.margins 0 + plan.page_width + plan.gutter;
  top_y = slice_index plan.margins 1;
}

-- the mark is printed with this ink
abbrev pub has_ink : Ink → MarkData → Bool
has_ink ink mark = slice_index_or mark.inks (slot_of ink) false

-- the mark covers this pixel
abbrev pub covers : ℕ → ℕ → MarkData → Bool
covers x y mark =
    (nat_le mark.x x && nat_lt x (mark.x + mark.w)) && (nat_le mark.y y && nat_lt y (mark.y + mark.h))

-- some mark of this ink covers this pixel
unfoldable pub is_marked_at : PlanData → Ink → ℕ → ℕ → Bool
is_marked_at plan ink x y = list_any (λ mark. has_ink ink mark && covers x y mark) plan.marks
