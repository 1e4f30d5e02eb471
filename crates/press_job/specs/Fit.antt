-- What the tests of a job's files establish for each of its layers.
use Rattle.std.specs.Prelude.{◌≡◌, List, ℕ, length, None}
use Rattle.plan_json.specs.Data.{PlanData}
use Rattle.plan_json.specs.Plan.{IsPlan}
use Rattle.press_job.specs.Tests.{ArePassed, fault_of_layers}

-- the files and layers of a plan pass all tests
pub record ArePlanned (plan : PlanData) (files : List (List ℕ)) : Type 0 where
  pub plan_is : IsPlan plan
  pub count : length files ≡ length plan.files
  pub passed : ArePassed plan files
  pub fit : fault_of_layers plan files ≡ None
