-- What a returned refusal of a job, and a prepared job, imply for the verdict where the shelf's contents
-- are known.
use Rattle.std.proofs.Common.{◌≡◌, ◌⊎◌, ℕ, ◌<◌, ◌≤◌, List, length, Option, Some, None, IfSome, IsSomeAnd, option_and_then, true, false, if◌then◌else◌, nat_lt, refl, sym, ap, subst, ◌∙◌, inl, inr, arith}
use Rattle.std.proofs.lemmas.Bool.Decides.{nat_tests}
use Rattle.pr_ports.specs.Shelf.{held_at}
use Rattle.plan_json.specs.Data.{PlanData}
use Rattle.plan_json.specs.PlanOf.{plan_of}
use Rattle.press_job.specs.Job.{JobData}
use Rattle.press_job.specs.Verdict.{AreSound, IsFirstFault, OfFiles, verdict_on_files}
use Rattle.cmd_base.specs.declared.refusal.Whose.{Whose}
use Rattle.cmd_base.specs.declared.refusal.Refusal.{Refusal}
use Rattle.cmd_base.specs.declared.refusal.Refusal.TheVariants.{Words, LongPlan, Plan, File, Shelf}
use Rattle.cmd_base.specs.Job.{IsLoaded, IsPlanned, IsPrepared, JobMeets, files_refusal, plan_limit, verdict_on_job, verdict_on_plan, verdict_with}
use Rattle.cmd_base.specs.Refusal.{status_of}
use Rattle.cmd_base.specs.Seen.{Files, ShelfSeen, LoadFailed}

-- P holds of the files of a shelf whose contents are known
pub of_told : (held : Option Files) (files : Files) (P : Files → Type 0) → held ≡ Some files → IfSome held P → P files
of_told held files P told h = let Q : Option Files → Type 0 = λ o. IfSome o P in subst Q told h

-- the same for `OfFiles`, which is about the shelf's own files where they are known
of_files : (held : Option Files) (files : Files) (P : Files → Type 0) → held ≡ Some files → OfFiles held P → P files
of_files held files P told h = let Q : Option Files → Type 0 = λ o. OfFiles o P in subst Q told h

module _ (whose : Whose) (path folder : List ℕ) (files : Files) where
  -- a plan that is present and not too long is parsed
  short_plan : (bytes : List ℕ) → length bytes ≤ plan_limit
      → verdict_with whose path folder files (Some bytes) ≡ verdict_on_plan whose folder files (plan_of bytes)
  short_plan bytes within =
      let short : nat_lt plan_limit (length bytes) ≡ false = grind (arith, nat_tests) in
      ap (λ long. if long then Some (LongPlan whose) else verdict_on_plan whose folder files (plan_of bytes)) short

  -- a plan that is present and longer is refused as too long
  long_plan : (found : Option (List ℕ)) → IsSomeAnd found (λ bytes. plan_limit < length bytes)
      → verdict_with whose path folder files found ≡ Some (LongPlan whose)
  long_plan None h = absurd h
  long_plan (Some bytes) beyond =
      let long : nat_lt plan_limit (length bytes) ≡ true = grind (arith, nat_tests) in
      ap (λ long. if long then Some (LongPlan whose) else verdict_on_plan whose folder files (plan_of bytes)) long

  -- a loaded plan is parsed
  loaded_plan : (held : Option Files) (bytes : List ℕ) → held ≡ Some files → IsLoaded held plan_limit path bytes
      → verdict_on_job whose path folder files ≡ verdict_on_plan whose folder files (plan_of bytes)
  loaded_plan held bytes told loaded =
      let L : Option Files → Type 0 = λ h. IsLoaded h plan_limit path bytes in
      let here : IsLoaded (Some files) plan_limit path bytes = subst L told loaded in
      ap (verdict_with whose path folder files) here.bytes_held ∙ short_plan bytes loaded.within

  -- the verdict on a job whose plan was parsed is that on its files
  planned_is : (held : Option Files) (plan : PlanData) → held ≡ Some files → IsPlanned held path plan
      → verdict_on_job whose path folder files ≡ option_and_then (files_refusal whose) (verdict_on_files plan folder files)
  planned_is held plan told planned =
      loaded_plan held planned.bytes told planned.loaded ∙ ap (verdict_on_plan whose folder files) planned.read

  -- the verdict on a prepared job is no refusal
  pub prepared_is : (held : Option Files) (job : JobData) → held ≡ Some files → IsPrepared held path folder job
      → verdict_on_job whose path folder files ≡ None
  prepared_is held job told prepared =
      planned_is held job.plan told prepared.planned
      ∙ ap (option_and_then (files_refusal whose))
      (of_files held files (AreSound job.plan folder job.files) told prepared.sound).pass

  -- a returned refusal is the verdict, or a load failed
  pub job_met : (shelf : ShelfSeen) (refusal : Refusal) → shelf.held ≡ Some files → JobMeets whose path folder shelf refusal
      → (verdict_on_job whose path folder files ≡ Some refusal) ⊎ ((status_of refusal ≡ 5) × LoadFailed shelf)
  job_met shelf Words told h = absurd h
  job_met shelf (LongPlan whose') told (is, longer, rose) =
      inl (long_plan (held_at files path)
      (of_told shelf.held files (λ all. IsSomeAnd (held_at all path) (λ bytes. plan_limit < length bytes)) told longer)
      ∙ ap (λ w. Some (LongPlan w)) (sym is))
  job_met shelf (Plan whose' fault) told (is, (bytes, loaded, read)) =
      inl (loaded_plan shelf.held bytes told loaded ∙ ap (verdict_on_plan whose folder files) read
      ∙ ap (λ w. Some (Plan w fault)) (sym is))
  job_met shelf (File whose' fault) told (is, bad) =
      inl (planned_is shelf.held bad.plan told bad.planned
      ∙ ap (option_and_then (files_refusal whose))
      (of_files shelf.held files (IsFirstFault bad.plan folder fault) told bad.faulty)
      ∙ ap (λ w. Some (File w fault)) (sym is))
  job_met shelf (Shelf missed) told (of, lost) = inr (refl, lost.counted)

-- loading a job does not refuse the arguments
pub job_known : (whose : Whose) (path folder : List ℕ) (shelf : ShelfSeen) (refusal : Refusal)
    → JobMeets whose path folder shelf refusal → status_of refusal ≡ 2 → ⊥
job_known whose path folder shelf Words met is = met
job_known whose path folder shelf (LongPlan whose') met is = absurd (omega arith)
job_known whose path folder shelf (Plan whose' fault) met is = absurd (omega arith)
job_known whose path folder shelf (File whose' fault) met is = absurd (omega arith)
job_known whose path folder shelf (Shelf missed) met is = absurd (omega arith)
