use Rattle.std.proofs.Common.{◌≡◌, ℕ, List, ap, sym, subst, ◌∙◌, length}
use Rattle.std.specs.Prelude.{Contains, IfSome, Option}
use Rattle.std.proofs.lemmas.List.Elements.{Contains-get_or}
use Rattle.std.proofs.lemmas.Result.{err_from_is_err_and}
use Rattle.pr_base.specs.declared.fault.FileFault.{FileFault}
use Rattle.press_job.specs.declared.fit.Misfit.{Misfit}
use Rattle.press_job.specs.Job.{JobData}
use Rattle.press_job.specs.Verdict.{AreSound, OfFiles}
use Rattle.press_job.proofs.FaultLemmas.{IsMisfit, layers_fit}
use Rattle.press_job.proofs.ToldLemmas.{done_tells, file_tells, memory_tells}
use Rattle.press_job.proofs.UntoldLemmas.{misfit_of, sound_of}
use Rattle.press_job.proofs.preparing.prepare.Goals as goal

pub fault_of-requires : goal.fault_of-requires
fault_of-requires g c =
    (subst {A = Option Misfit} (λ o. IfSome o (IsMisfit (length c.args.plan.files))) (sym c.in-Err.ensures) (layers_fit c.args.plan c.in_ok-loaded.loaded.bytes c.in_ok-loaded.ensures.plan)).within

pub returns-in-Err-clause-shelf : goal.returns-in-Err-clause-shelf
returns-in-Err-clause-shelf g c =
    let misfit = subst {A = Option Misfit} (λ o. IfSome o (IsMisfit (length c.args.plan.files))) (sym c.in-Err.ensures) (layers_fit c.args.plan c.in_ok-loaded.loaded.bytes c.in_ok-loaded.ensures.plan) in
    let told = c.in_ok-loaded.ensures.shelf in
    file_tells g.H.Shelf c.args.plan c.args.shelf.now _ c.in_ok-fault.fault
    (subst (Contains c.args.plan.files) (sym (ap {A = FileFault} (λ f. f.file) c.in_ok-fault.ensures)) (Contains-get_or c.args.plan.files c.in-Err.misfit.file _ misfit.within))
    (λ long. misfit.short (sym (ap {A = FileFault} (λ f. f.kind) c.in_ok-fault.ensures) ∙ long)) told.done_missed told.done_faults told.done_longs told.held

pub returns-clause-sound : goal.returns-clause-sound
returns-clause-sound g c =
    let held = g.H.Shelf.held c.args.shelf.now in
    let loaded = c.in_ok-loaded.loaded.bytes in
    let job = c.of-2.result in
    let is : loaded ≡ job.files = sym (ap {A = JobData} (λ j. j.files) c.of-2.ensures) in
    let P : List (List ℕ) → Type 0 = λ files. OfFiles held (AreSound c.args.plan c.args.files.now files) in
    subst P is (sound_of c.args.plan c.args.files.now held loaded c.in_ok-loaded.ensures.count c.in_ok-loaded.ensures.sound (sym c.in_default.ensures))

pub returns-in-Err-clause-faulty : goal.returns-in-Err-clause-faulty
returns-in-Err-clause-faulty g c =
    misfit_of c.args.plan c.args.files.now (g.H.Shelf.held c.args.shelf.now) c.in_ok-loaded.loaded.bytes c.in-Err.misfit c.in_ok-fault.fault c.in_ok-loaded.ensures.count c.in_ok-loaded.ensures.sound
    (sym c.in-Err.ensures) c.in_ok-fault.ensures

pub returns-clause-shelf : goal.returns-clause-shelf
returns-clause-shelf g c = done_tells g.H.Shelf c.args.plan c.args.shelf.now _ c.in_ok-loaded.loaded c.of-2.result c.in_ok-loaded.ensures.shelf

pub returns-in_err-rows-clause-shelf : goal.returns-in_err-rows-clause-shelf
returns-in_err-rows-clause-shelf g c =
    let p = err_from_is_err_and c.from_residual-in_err-rows.result c.from_residual-in_err-rows.ensures.1 in
    rw (p.1, p.2) (memory_tells g.H.Shelf c.args.plan c.args.shelf.now _ c.in_ok-loaded.loaded c.in_ok-loaded.ensures.shelf)

pub returns-in_err-fault-clause-shelf : goal.returns-in_err-fault-clause-shelf
returns-in_err-fault-clause-shelf g c =
    let p = err_from_is_err_and c.from_residual-in_err-fault.result c.from_residual-in_err-fault.ensures.1 in
    rw (p.1, p.2) (memory_tells g.H.Shelf c.args.plan c.args.shelf.now _ c.in_ok-loaded.loaded c.in_ok-loaded.ensures.shelf)
