-- The rows of a job and those of its feed.
use Rattle.std.proofs.Common.{◌≡◌, ℕ, List, length, map, sym, ap, subst, ◌∙◌}
use Rattle.pr_base.specs.Row.{row_size}
use Rattle.tif_packbits.specs.Frame.{AreFrames, framed_row}
use Rattle.plan_json.specs.Data.{PlanData, plate_width}
use Rattle.plan_json.specs.Plan.{IsPlan}
use Rattle.plan_rows.specs.Rows.{RowPlanData, row_total, rows_of}
use Rattle.plan_rows.proofs.RowLemmas.{total_is}
use Rattle.press_job.specs.Job.{JobData}
use Rattle.press_job.specs.Rows.{plate_frames, plate_rows}
use Rattle.press_job.proofs.FrameLemmas.{are_frames, length-plate_frames, rows_are}

module _ (own : PlanData) (job : JobData) (left : List (List ℕ)) (same : own ≡ job.plan) (is : IsPlan job.plan)
    (feeds : left ≡ plate_frames job.plan job.files) where
  rows_in : map framed_row left ≡ plate_rows job.plan job.files
  rows_in = ap (map framed_row) feeds ∙ rows_are job.plan job.files is

  pub frames_in : AreFrames (row_size (plate_width own)) (map framed_row left) left
  frames_in =
      let of_job : List (List ℕ) = plate_rows job.plan job.files in
      subst (λ (p : PlanData). AreFrames (row_size (plate_width p)) (map framed_row left) left) (sym same)
      (subst (λ (rows : List (List ℕ)). AreFrames (row_size (plate_width job.plan)) rows left) (sym rows_in)
      (subst (λ (l : List (List ℕ)). AreFrames (row_size (plate_width job.plan)) of_job l) (sym feeds)
      (are_frames job.plan job.files is)))

  -- a property of `own` and the rows left in the feed holds of the job's plan and rows
  pub over_job : (P : PlanData → List (List ℕ) → Type 0) → P own (map framed_row left) → P job.plan (plate_rows job.plan job.files)
  over_job P p = subst (λ (rows : List (List ℕ)). P job.plan rows) rows_in (subst (λ (q : PlanData). P q (map framed_row left)) same p)

pub total_in : (job : JobData) (left : List (List ℕ)) (rows : RowPlanData) → rows ≡ rows_of job.plan
    → left ≡ plate_frames job.plan job.files → length left ≡ row_total rows
total_in job left rows is feeds =
    ap length feeds ∙ length-plate_frames job.plan job.files ∙ total_is (rows_of job.plan) ∙ ap row_total (sym is)
