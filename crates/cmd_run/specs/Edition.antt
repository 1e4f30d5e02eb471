-- The command `run`: the plates of all sites of an edition. A run may have further readers of its ring, and a
-- text after its report.
use Rattle.std.specs.Prelude.{◌≡◌, ◌≤◌, ℕ, ◌+◌, ◌⊎◌, List, [], ◌++◌, length, drop, Result, Ok, Err}
use Rattle.pr_base.specs.Number.{IsWithin}
use Rattle.pr_ports.specs.Sink.{Grew, GrewByPrefix}
use Rattle.pr_rack.specs.declared.rack.Rack.{Ghosts}
use Rattle.pr_rack.specs.Told.{all_told}
use Rattle.press_job.specs.Job.{JobData}
use Rattle.press_job.specs.Rows.{plate_rows}
use Rattle.ring_run.specs.Fits.{Delivery, RunFits, RunPart, by_ring}
use Rattle.ring_run.specs.declared.site_end.SiteEnd.{SiteEnd}
use Rattle.cmd_base.specs.declared.refusal.Stop.{Stop}
use Rattle.cmd_base.specs.declared.refusal.Stop.TheVariants.{Refused, Memory, Printing}
use Rattle.cmd_base.specs.declared.refusal.Whose.TheVariants.{New}
use Rattle.cmd_base.specs.Job.{IsPrepared, JobMeets, verdict_on_job}
use Rattle.cmd_run.specs.Report.{report_of, status_of_ends}
use Rattle.cmd_base.specs.Seen.{ShelfSeen, SinkSeen, PutFailed}
use Rattle.cmd_base.specs.Task.{Makes, Rules}
use Rattle.cmd_run.specs.declared.edition.Edition as coded

-- an edition to run: its plan, the folder of its files, the folder of its plates, the number of places of the
-- ring, and the patience of a turn
pub record Edition : Type 0 where
  pub plan : List ℕ
  pub files : List ℕ
  pub out : List ℕ
  pub ring : ℕ
  pub patience : ℕ

-- the edition of the specification that an edition of the code stands for
abbrev pub edition_told : coded.Edition → Edition
edition_told edition = record {
  plan = edition.paths.plan.now;
  files = edition.paths.files.now;
  out = edition.paths.out.now;
  ring = edition.ring;
  patience = edition.patience;
}

-- the numbers of an edition are in their ranges
pub record HasNumbers (edition : coded.Edition) : Type 0 where
  pub ring : IsWithin 1 1024 edition.ring
  pub patience : IsWithin 1 65536 edition.patience

-- what a run has besides its sites: the number of further readers of its ring, and the text after the report,
-- by job
pub record Further : Type 0 where
  pub readers : ℕ
  pub told : JobData → List ℕ

-- nothing besides the sites
abbrev pub none_further : Further
none_further = record { readers = 0; told = λ job. [] }

-- the delivery that the run of a job makes
abbrev pub delivery_of : Edition → Further → JobData → Delivery
delivery_of edition further job =
    by_ring job.plan (plate_rows job.plan job.files) edition.out (length job.plan.sites + further.readers)
    edition.ring

abbrev pub run_rules : Edition → Rules
run_rules edition = record {
  verdict = verdict_on_job New edition.plan edition.files;
  Meets = JobMeets New edition.plan edition.files;
  Ends = λ files status. status ≡ 0;
}

-- a run with what it has besides its sites
module _ {R : Type 0} (g : Ghosts R) (edition : Edition) (further : Further) where
  -- each site's end fits what its rack gained, and the racks after the last site's are unchanged
  pub record Delivers (job : JobData) (racks racks' : List R) (ends : List SiteEnd) : Type 0 where
    pub enough : length job.plan.sites ≤ length racks
    pub kept : length racks' ≡ length racks
    pub fits : RunFits (delivery_of edition further job) (all_told g racks) (all_told g racks') ends
    pub others : drop (length job.plan.sites) racks' ≡ drop (length job.plan.sites) racks

  -- out of memory: each rack gained a prefix of its site's files and a prefix of its site's rows, and the
  -- racks after the last site's are unchanged
  pub record DeliversPart (job : JobData) (racks racks' : List R) : Type 0 where
    pub part : RunPart (delivery_of edition further job) (all_told g racks) (all_told g racks')
    pub others : drop (length job.plan.sites) racks' ≡ drop (length job.plan.sites) racks

  -- the racks took what the sites' ends state, the text is the report of these ends and the text after it,
  -- and the status is 0 if every site finished, else 1
  pub record Reports (job : JobData) (racks racks' : List R) (text : List ℕ) (status : ℕ) : Type 0 where
    pub ends : List SiteEnd
    pub delivers : Delivers job racks racks' ends
    pub text_is : text ≡ report_of job.plan ends ++ further.told job
    pub status_is : status ≡ status_of_ends ends

  -- the edition was prepared, and the text and status are those of its run
  pub record PrintsReport (shelf : ShelfSeen) (racks racks' : List R) (text : List ℕ) (status : ℕ)
      : Type 0 where
    pub job : JobData
    pub prepared : IsPrepared shelf.held edition.plan edition.files job
    pub reports : Reports job racks racks' text status

  -- the edition was prepared, and memory ran out in its run
  pub record BeginsRun (shelf : ShelfSeen) (racks racks' : List R) : Type 0 where
    pub job : JobData
    pub prepared : IsPrepared shelf.held edition.plan edition.files job
    pub part : DeliversPart job racks racks'

  abbrev pub makes_with : Makes R
  makes_with = record { Prints = PrintsReport; Begins = BeginsRun }

  -- ---- private functions

  -- the output received the complete text of a job
  pub record ReportsWhole (job : JobData) (racks racks' : List R) (out : SinkSeen) (status : ℕ)
      : Type 0 where
    pub text : List ℕ
    pub reports : Reports job racks racks' text status
    pub grew : Grew out.given out.given' text

  -- the output received a prefix of the text of a job
  pub record ReportsFront (job : JobData) (racks racks' : List R) (out : SinkSeen) : Type 0 where
    pub text : List ℕ
    pub status : ℕ
    pub reports : Reports job racks racks' text status
    pub grew : GrewByPrefix out.given out.given' text

  -- the racks and the output after the run of a job, by its result
  abbrev pub Delivered : JobData → List R → List R → SinkSeen → Result ℕ Stop → Type 0
  Delivered job racks racks' out (Ok status) = ReportsWhole job racks racks' out status
  Delivered job racks racks' out (Err (Refused refusal)) = ⊥
  Delivered job racks racks' out (Err Memory) =
      ReportsFront job racks racks' out
      ⊎ (DeliversPart job racks racks' × (out.given' ≡ out.given))
  Delivered job racks racks' out (Err Printing) = ReportsFront job racks racks' out × PutFailed out

-- what a run with nothing besides its sites produces
abbrev pub run_makes : {R : Type 0} → Ghosts R → Edition → Makes R
run_makes g edition = makes_with g edition none_further
