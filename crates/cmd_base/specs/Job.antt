-- Loading a job: its plan, and then the files that the plan names. The verdict on a job, and the refusals
-- that loading may return, each with its cause.
use Rattle.std.specs.Prelude.{◌≡◌, ◌≤◌, ◌⊎◌, ℕ, if◌then◌else◌, nat_lt, List, length, Contains, Option, Some}
use Rattle.std.specs.Prelude.{None, IfSome, Result, Ok, Err, option_and_then}
use Rattle.pr_base.specs.declared.fault.FileFault.{FileFault}
use Rattle.pr_base.specs.declared.fault.FaultKind.TheVariants.{TooLong}
use Rattle.pr_base.specs.Count.{Rose}
use Rattle.pr_ports.specs.Shelf.{IsHeldAt, IsLongerAt, held_at}
use Rattle.plan_parts.specs.declared.fault.PlanFault.{PlanFault}
use Rattle.plan_json.specs.Data.{PlanData}
use Rattle.plan_json.specs.PlanOf.{plan_of}
use Rattle.press_job.specs.declared.refusal.Refusal as filed
use Rattle.press_job.specs.declared.refusal.Refusal.TheVariants as filed_as
use Rattle.press_job.specs.Job.{JobData}
use Rattle.press_job.specs.Verdict.{AreSound, IsFirstFault, IsMissing, OfFiles, verdict_on_files}
use Rattle.cmd_base.specs.declared.refusal.Whose.{Whose}
use Rattle.cmd_base.specs.declared.refusal.Refusal.{Refusal}
use Rattle.cmd_base.specs.declared.refusal.Refusal.TheVariants.{Words, LongPlan, Plan, File, Shelf}
use Rattle.cmd_base.specs.Seen.{Files, ShelfSeen}
use Rattle.cmd_base.specs.declared.refusal.Stop.{Stop}
use Rattle.cmd_base.specs.declared.refusal.Stop.TheVariants.{Refused, Memory, Printing}

-- ---- the verdict, from the files that a shelf holds

-- the largest plan that is read, in bytes
abbrev pub plan_limit : ℕ
plan_limit = 16777216

-- the refusal for a plan's files; running out of memory is not a refusal
abbrev pub files_refusal : Whose → filed.Refusal → Option Refusal
files_refusal whose (filed_as.File fault) = Some (File whose fault)
files_refusal whose (filed_as.Shelf path) = Some (Shelf path)
files_refusal whose filed_as.Memory = None

-- the verdict on the result of parsing a plan: on the plan, and then on its files
abbrev pub verdict_on_plan : Whose → List ℕ → Files → Result PlanData PlanFault → Option Refusal
verdict_on_plan whose folder files (Err fault) = Some (Plan whose fault)
verdict_on_plan whose folder files (Ok plan) =
    option_and_then (files_refusal whose) (verdict_on_files plan folder files)

-- the verdict on the bytes at the plan's path: present, not too long, and a plan whose files pass
abbrev pub verdict_with : Whose → List ℕ → List ℕ → Files → Option (List ℕ) → Option Refusal
verdict_with whose path folder files None = Some (Shelf path)
verdict_with whose path folder files (Some bytes) =
    if nat_lt plan_limit (length bytes) then Some (LongPlan whose)
    else verdict_on_plan whose folder files (plan_of bytes)

-- the verdict on the job of a plan at a path, with its files in a folder
abbrev pub verdict_on_job : Whose → List ℕ → List ℕ → Files → Option Refusal
verdict_on_job whose path folder files = verdict_with whose path folder files (held_at files path)

-- ---- what was loaded

-- the shelf returned these bytes, at most `limit` of them; they are what it holds at the path, where its
-- contents are known
pub record IsLoaded (held : Option Files) (limit : ℕ) (path bytes : List ℕ) : Type 0 where
  pub within : length bytes ≤ limit
  pub bytes_held : IsHeldAt held path bytes

-- the plan at a path was loaded and parsed
pub record IsPlanned (held : Option Files) (path : List ℕ) (plan : PlanData) : Type 0 where
  pub bytes : List ℕ
  pub loaded : IsLoaded held plan_limit path bytes
  pub read : plan_of bytes ≡ Ok plan

-- the plan and its files, free of faults: read from the shelf's files where they are known, otherwise from
-- some files
pub record IsPrepared (held : Option Files) (path folder : List ℕ) (job : JobData) : Type 0 where
  pub planned : IsPlanned held path job.plan
  pub sound : OfFiles held (AreSound job.plan folder job.files)

-- ---- refusals with their causes

-- the shelf counted a failure in this call; this path is that of its last failed load, where that is known
pub record HasMissed (shelf : ShelfSeen) (path : List ℕ) : Type 0 where
  pub counted : Rose shelf.faults shelf.faults'
  pub last : IfSome shelf.missed' (λ missed. missed ≡ Some path)

-- the plan at a path names a file with this fault, the first fault found among the shelf's files where its
-- contents are known, otherwise among some files; a file is reported as too long only where the shelf
-- counted that
pub record HasBadFile (shelf : ShelfSeen) (path folder : List ℕ) (fault : FileFault) : Type 0 where
  pub plan : PlanData
  pub planned : IsPlanned shelf.held path plan
  pub named' : Contains plan.files fault.file
  pub faulty : OfFiles shelf.held (IsFirstFault plan folder fault)
  pub long : fault.kind ≡ TooLong → Rose shelf.longs shelf.longs'

-- the failed load was that of the plan, or of one of its files with no fault before it, where the contents
-- are known
abbrev pub IsPathOf : Option Files → List ℕ → List ℕ → List ℕ → Type 0
IsPathOf held path folder missed =
    (missed ≡ path)
    ⊎ ((plan : PlanData) × IsPlanned held path plan × IsMissing plan folder held missed)

-- loading a job returns this refusal
abbrev pub JobMeets : Whose → List ℕ → List ℕ → ShelfSeen → Refusal → Type 0
JobMeets whose path folder shelf Words = ⊥
JobMeets whose path folder shelf (LongPlan whose') =
    (whose' ≡ whose) × IsLongerAt shelf.held path plan_limit × Rose shelf.longs shelf.longs'
JobMeets whose path folder shelf (Plan whose' fault) =
    (whose' ≡ whose)
    × ((bytes : List ℕ) × IsLoaded shelf.held plan_limit path bytes × (plan_of bytes ≡ Err fault))
JobMeets whose path folder shelf (File whose' fault) =
    (whose' ≡ whose) × HasBadFile shelf path folder fault
JobMeets whose path folder shelf (Shelf missed) =
    IsPathOf shelf.held path folder missed × HasMissed shelf missed

-- ---- private calls

-- why a job wasn't loaded
abbrev pub JobRefused : Whose → List ℕ → List ℕ → ShelfSeen → Stop → Type 0
JobRefused whose path folder shelf (Refused refusal) = JobMeets whose path folder shelf refusal
JobRefused whose path folder shelf Memory = Unit {0}
JobRefused whose path folder shelf Printing = ⊥
