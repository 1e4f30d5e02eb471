-- The contents of a job.
use Rattle.std.specs.Prelude.{◌≡◌, ℕ, List}
use Rattle.plan_json.specs.Data.{PlanData}
use Rattle.plan_pages.specs.declared.shape.PlateShape.{PlateShape}
use Rattle.plan_pages.specs.Plate.{shape_of_plate}
use Rattle.plan_rows.specs.Rows.{RowPlanData, rows_of}
use Rattle.press_job.specs.Findings.{FilesData, HaveLayers}
use Rattle.press_job.specs.Fit.{ArePlanned}

-- a plan and the bytes of its files in order
pub record JobData : Type 0 where
  pub plan : PlanData
  pub files : List (List ℕ)

-- the files of a job pass the tests of their uses, and its layers pass theirs; what was found is kept
pub record IsJob (plan : PlanData) (files : FilesData) (rows : RowPlanData)
    (shape : PlateShape) : Type 0 where
  pub planned : ArePlanned plan files.bytes
  pub found : HaveLayers plan files
  pub rows_are : rows ≡ rows_of plan
  pub shape_is : shape ≡ shape_of_plate plan
