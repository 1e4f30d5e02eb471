use Rattle.std.proofs.Common.{ap, sym, subst, ◌∙◌}
use Rattle.std.specs.Result.{result_err}
use Rattle.press_job.specs.declared.file_test.FileTest.{FileTest}
use Rattle.press_job.specs.Tested.{GoesOn, has_passed}
use Rattle.press_job.proofs.FindingLemmas.{has_noted, stands, use_noted}
use Rattle.press_job.proofs.file_test.FileTest.check.Goals as goal

pub returns-then-has_passed-clause-first : goal.returns-then-has_passed-clause-first
returns-then-has_passed-clause-first g c =
    ap result_err (c.requires.each c.args.usage (sym c.has_passed.ensures ∙ c.if-has_passed.true)).passed

pub returns-then-has_passed-clause-goes_on : goal.returns-then-has_passed-clause-goes_on
returns-then-has_passed-clause-goes_on g c = stands c.args.self.now c.requires

pub returns-clause-goes_on : goal.returns-clause-goes_on
returns-clause-goes_on g c =
    subst {A = FileTest} (GoesOn c.args.self.now) (sym c.note.ensures) (use_noted c.args.self.now c.args.usage c.in_ok-found.found c.requires c.in_ok-found.ensures.found)

pub returns-clause-passed : goal.returns-clause-passed
returns-clause-passed g c =
    ap {A = FileTest} (λ t. has_passed t c.args.usage) c.note.ensures ∙ has_noted c.args.self.now c.args.usage c.in_ok-found.found
