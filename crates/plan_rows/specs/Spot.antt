-- A plan without its values for the spot ink.
use Rattle.std.specs.Prelude.{◌≡◌, false, [], ◌∷◌, ◌++◌, map, take}
use Rattle.plan_parts.specs.declared.printing.Screen.TheVariants.{Bayer}
use Rattle.plan_parts.specs.Data.{PageData, LayerData, MarkData, CurveData}
use Rattle.plan_json.specs.Data.{PlanData}

-- the mark, not printed with S
abbrev pub spotless_mark : MarkData → MarkData
spotless_mark mark = record mark { inks = take 4 mark.inks ++ false ∷ [] }

-- the layer, with ink value 0 for S
abbrev pub spotless_layer : LayerData → LayerData
spotless_layer layer = record layer { ink = take 4 layer.ink ++ 0 ∷ [] }

abbrev pub spotless_page : PageData → PageData
spotless_page page = record page { layers = map spotless_layer page.layers }

-- the identity curve
abbrev pub plain_curve : CurveData
plain_curve = (0, 0) ∷ (255, 255) ∷ []

-- the plan with the spot ink's screen, curve, marks and layer values replaced by the defaults of a plan that
-- does not mention it
unfoldable pub without_spot : PlanData → PlanData
without_spot plan = record plan {
  screens = take 4 plan.screens ++ Bayer 8 ∷ [];
  curves = take 4 plan.curves ++ plain_curve ∷ [];
  marks = map spotless_mark plan.marks;
  pages = map spotless_page plan.pages;
}

-- two plans that differ at most in their values for the spot ink
abbrev pub SameButSpot : PlanData → PlanData → Type 0
SameButSpot a b = without_spot a ≡ without_spot b
