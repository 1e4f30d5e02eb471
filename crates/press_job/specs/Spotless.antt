-- Plans whose pages have no spot.
use Rattle.std.specs.Prelude.{◌≡◌, ℕ, false}
use Rattle.plan_json.specs.Data.{PlanData}
use Rattle.plan_rows.specs.Groups.{page_spot}

-- no page of the plan prints the spot ink
abbrev pub IsSpotless : PlanData → Type 0
IsSpotless plan = (page : ℕ) → page_spot plan page ≡ false
