-- The tone of a plan.
use Rattle.std.specs.Prelude.{◌≡◌, ◌<◌, ℕ, Bool, if◌then◌else◌, nat_lt, List, [], ◌∷◌, length, slice_index}
use Rattle.std.specs.Prelude.{slice_index_or}
use Rattle.pr_base.specs.declared.ink.Ink.{Ink}
use Rattle.plan_parts.specs.Data.{CurveData}
use Rattle.plan_json.specs.Data.{PlanData}
use Rattle.plan_json.specs.Plan.{IsPlan}
use Rattle.pr_base.specs.Ink.{slot_of}
use Rattle.press_job.specs.Printing.{toned}

-- the tables of a plan's curves
pub record AreCurves (plan : PlanData) (curves : List (List ℕ)) : Type 0 where
  pub plan_is : IsPlan plan
  pub five : length curves ≡ 5
  pub each : (ink : Ink) (value : ℕ) → value < 256
      → slice_index (slice_index_or curves (slot_of ink) []) value ≡ toned plan ink value

-- the largest sum of C, M, Y and K at a pixel: four values on a page in colour, otherwise that of K
abbrev pub most_ink : Bool → ℕ
most_ink colour = if colour then 1020 else 255

-- whether the plan's limit can change the values of a page that prints C, M and Y or not
abbrev pub limits : PlanData → Bool → Bool
limits plan colour = nat_lt plan.limit (most_ink colour)

-- the points of the identity curve
abbrev pub identity : CurveData
identity = (0, 0) ∷ (255, 255) ∷ []
