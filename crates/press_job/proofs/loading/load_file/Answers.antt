use Rattle.std.proofs.Common.{rules, ◌≡◌, ◌≢◌, ℕ, List, ap, sym, subst, ◌∙◌}
use Rattle.std.specs.Prelude.{IfSome, Option}
use Rattle.pr_base.specs.declared.fault.FileFault.{FileFault}
use Rattle.pr_base.specs.declared.fault.TagFault.{TagFault}
use Rattle.pr_base.specs.declared.fault.FaultKind.TheVariants.{TooLong}
use Rattle.pr_ports.specs.Shelf.{IsLongerAt}
use Rattle.press_job.specs.Verdict.{path_of}
use Rattle.press_job.proofs.FaultLemmas.{file_never_long}
use Rattle.press_job.proofs.ToldLemmas.{file_tells}
use Rattle.press_job.proofs.UntoldLemmas.{fault_found, long_found}
use Rattle.press_job.proofs.loading.load_file.Goals as goal

pub returns-in-Err-TooLong-clause-found : goal.returns-in-Err-TooLong-clause-found
returns-in-Err-TooLong-clause-found g c =
    let held = g.H.Shelf.held c.args.shelf.now in
    let at : c.as_str.result.now ≡ path_of c.args.plan.now c.args.folder.now c.args.file = search rules in
    let P : List ℕ → Type 0 = λ path. IsLongerAt held path c.args.limit in
    long_found c.args.plan.now c.args.folder.now (g.H.Shelf.held c.args.shelf.now) c.args.limit c.args.file c.in_ok-long.long (subst P at (rw c.in-Err-TooLong.field-0-is at c.in-Err-TooLong.ensures.longer)) c.in_ok-long.ensures

pub returns-clause-found : goal.returns-clause-found
returns-clause-found g c =
    let told = rw c.in-Err-Failed-test_file.field-0-is at c.in-Err-Failed-test_file.ensures.first in
    fault_found c.args.plan.now c.args.folder.now (g.H.Shelf.held c.args.shelf.now) c.args.limit c.args.file c.as_slice.result.now c.in-Err-Failed-test_file.fault c.in_ok-fault-in-Err-Failed-test_file.fault (search rules) (search rules) told c.in_ok-fault-in-Err-Failed-test_file.ensures

pub returns-clause-shelf : goal.returns-clause-shelf
returns-clause-shelf g c =
    let told = rw c.in-Err-Failed-test_file.field-0-is at c.in-Err-Failed-test_file.ensures.first in
    let never : c.in-Err-Failed-test_file.fault.kind ≢ TooLong =
    subst {A = Option TagFault} (λ o. IfSome o (λ fault. fault.kind ≢ TooLong)) told (file_never_long c.args.plan.now c.args.file c.as_slice.result.now) in
    file_tells g.H.Shelf c.args.plan.now c.args.shelf.now _ c.in_ok-fault-in-Err-Failed-test_file.fault (search rules)
    (λ long. never (sym (ap {A = FileFault} (λ f. f.kind) c.in_ok-fault-in-Err-Failed-test_file.ensures) ∙ long)) (search rules) (search rules) (search rules) (search rules)
