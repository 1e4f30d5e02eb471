-- Laws of reading plans.
use Rattle.std.specs.Prelude.{◌≡◌, Some, Ok, codes}
use Rattle.serde_json.specs.Data.{Members, object, number, unsigned, put}
use Rattle.serde_json.specs.Find.{get_member}
use Rattle.plan_json.specs.Data.{PlanData}
use Rattle.plan_json.specs.PlanOf.{plan_in}

-- an object that is a plan with `plan` equal to 1 is the same plan with 2 there
abbrev pub PlanOneIsPlanTwo : Type 0
PlanOneIsPlanTwo =
    (members : Members) (plan : PlanData) → get_member (codes "plan") members ≡ Some (number (unsigned 1))
    → plan_in (object members) ≡ Ok plan
    → plan_in (object (put (codes "plan") (number (unsigned 2)) members)) ≡ Ok plan
