-- Jobs, as input to a comparison.
use Rattle.std.specs.Prelude.{◌≡◌, ℕ, List, length, map}
use Rattle.std.specs.Global.{Vec}
use Rattle.plan_json.specs.Data.{PlanData}
use Rattle.plan_rows.specs.Rows.{RowPlanData, rows_of}

-- a plan, and the bytes of its files in the plan's order
pub record JobData : Type 0 where
  pub plan : PlanData
  pub files : List (List ℕ)

-- the bytes of each file
abbrev pub bytes_of : List (Vec ℕ) → List (List ℕ)
bytes_of files = map (λ file. file.items) files

-- the row plan is that of the plan, and there is a file for each of the plan's files
pub record AreInputs (plan : PlanData) (rows : RowPlanData) (files : List (Vec ℕ)) : Type 0 where
  pub rows_are : rows ≡ rows_of plan
  pub count : length files ≡ length plan.files
