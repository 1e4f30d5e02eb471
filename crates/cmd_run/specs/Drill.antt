-- The text of a drill: the report of the generated job with a number, whose sites all finish, and the number
-- of dots on the plates of each site. Both are functions of the job's number.
use Rattle.std.specs.Prelude.{◌≡◌, ℕ, List, ◌++◌, codes, length, map, flat_map, slice_get, None, Some}
use Rattle.std.specs.Fmt.{decimal}
use Rattle.std.specs.List.{range_with_len}
use Rattle.pr_base.specs.Number.{IsWithin}
use Rattle.pr_rack.specs.Mem.{MemState}
use Rattle.plan_json.specs.Data.{PlanData}
use Rattle.plan_rows.specs.Paths.{site_name}
use Rattle.plan_rows.specs.Plates.{plate_rows as rows_of_plate, site_files, site_plates}
use Rattle.press_job.specs.Job.{JobData}
use Rattle.press_job.specs.Rows.{plate_rows}
use Rattle.press_job.specs.Verdict.{files_in, verdict_on_files}
use Rattle.job_gen.specs.Images.{files_of}
use Rattle.job_gen.specs.Plan.{job_plan}
use Rattle.drill_mem.specs.Dots.{all_dots}
use Rattle.ring_lanes.specs.declared.source.Source.TheVariants.{Ring}
use Rattle.site_agent.specs.Plan.{drawn_rows}
use Rattle.ring_run.specs.Fits.{kept_rows}
use Rattle.cmd_run.specs.declared.drill.Drill.{Drill}
use Rattle.cmd_run.specs.Report.{report_of}
use Rattle.cmd_base.specs.Seen.{ShelfSeen}
use Rattle.cmd_base.specs.Task.{Rules}
use Rattle.ring_run.specs.declared.site_end.SiteEnd.{SiteEnd}
use Rattle.ring_run.specs.declared.site_end.SiteEnd.TheVariants.{Finished}

-- ---- the report

-- the end of a site that finished all its plates and rows
abbrev pub finished_end : PlanData → ℕ → SiteEnd
finished_end plan site = Finished (length (site_plates plan site)) (kept_rows plan site)

unfoldable pub finished_ends : PlanData → List SiteEnd
finished_ends plan = map (finished_end plan) (range_with_len 0 (length plan.sites))

-- ---- the dots

-- the number of dots on all plates of a site, out of all rows in order
unfoldable pub site_dots : PlanData → List (List ℕ) → ℕ → ℕ
site_dots plan rows site = all_dots (map (rows_of_plate plan rows) (site_plates plan site))

-- the line of a site
abbrev pub dots_line : PlanData → List (List ℕ) → ℕ → List ℕ
dots_line plan rows site =
    codes "dots " ++ site_name plan site ++ codes " " ++ decimal (site_dots plan rows site) ++ codes "\n"

-- the lines of the first `sites` sites
abbrev pub dots_lines : PlanData → List (List ℕ) → ℕ → List ℕ
dots_lines plan rows sites = flat_map (dots_line plan rows) (range_with_len 0 sites)

-- ---- a drill

-- the numbers of a drill are in their ranges
pub record HasTurns (drill : Drill) : Type 0 where
  pub ring : IsWithin 1 1024 drill.ring
  pub patience : IsWithin 1 65536 drill.patience

-- all plate rows of a job in order
abbrev pub rows_in : JobData → List (List ℕ)
rows_in job = plate_rows job.plan job.files

-- the report of a job whose sites all finished, followed by the dots of each site
unfoldable pub told_of : JobData → List ℕ
told_of job =
    report_of job.plan (finished_ends job.plan) ++ dots_lines job.plan (rows_in job) (length job.plan.sites)

-- the generated job with this number, with its files in the folder `in`
abbrev pub drill_job : ℕ → JobData
drill_job number =
    record { plan = job_plan number; files = files_in (job_plan number) (codes "in") (files_of number) }

-- every generated job passes the verdict on its files
abbrev pub GeneratedJobsPass : Type 0
GeneratedJobsPass = (n : ℕ) → verdict_on_files (job_plan n) (codes "in") (files_of n) ≡ None

-- the text that the drill with this number prints
unfoldable pub drill_text : ℕ → List ℕ
drill_text number = told_of (drill_job number)

-- ---- the racks of a drill

-- each rack holds the files of its site, with paths below the folder `drill`
pub record HaveFiles (job : JobData) (racks : List MemState) : Type 0 where
  pub count : length racks ≡ length job.plan.sites
  pub each : (site : ℕ) (rack : MemState) → slice_get racks site ≡ Some rack
      → rack.files ≡ site_files job.plan (rows_in job) (codes "drill") site

-- each rack holds the files of its site, and took the rows that the site keeps, from a ring of `ring` places
-- with one reader for each site
pub record HaveRun (job : JobData) (ring : ℕ) (racks : List MemState) : Type 0 where
  pub files : HaveFiles job racks
  pub taken : (site : ℕ) (rack : MemState) → slice_get racks site ≡ Some rack
      → rack.taken ≡ drawn_rows job.plan site (Ring site (length job.plan.sites) ring)

-- ---- the command

-- the text is that of the drill with this number, and there are racks that ran its job with a ring of `ring`
-- places
pub record IsDrilled (number ring : ℕ) (text : List ℕ) : Type 0 where
  pub is : text ≡ drill_text number
  pub racks : List MemState
  pub run : HaveRun (drill_job number) ring racks

-- a drill prints this text, and its status is 0
pub record PrintsDrill (number ring : ℕ) (shelf : ShelfSeen) (text : List ℕ) (status : ℕ) : Type 0 where
  pub drilled : IsDrilled number ring text
  pub zero : status ≡ 0

-- the verdict on a drill is a pass, and a drill meets no refusal
abbrev pub drill_rules : Rules
drill_rules = record {
  verdict = λ files. None;
  Meets = λ shelf refusal. ⊥;
  Ends = λ files status. status ≡ 0;
}
