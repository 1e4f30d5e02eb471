-- The sides of the plates of a plan.
use Rattle.plan_json.specs.Data.{PlanData, plate_width, plate_height}
use Rattle.tif_plate.specs.declared.sides.Sides.{Sides}

-- the sides of each plate of a plan, and its resolution
abbrev pub plate_sides : PlanData → Sides
plate_sides plan = record { width = plate_width plan; height = plate_height plan; dpi = plan.dpi }
