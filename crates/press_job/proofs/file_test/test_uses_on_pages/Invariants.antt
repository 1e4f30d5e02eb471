use Rattle.plan_parts.specs.Data.{PageData}
use Rattle.press_job.specs.Tests.{page_fault}
use Rattle.press_job.proofs.FindingLemmas.{AreTested, PassesOn}
use Rattle.press_job.proofs.file_test.test_uses_on_pages.Given as goal

abbrev pub invariant-loop-page : goal.invariant-loop-page
invariant-loop-page g l = AreTested PageData page_fault PassesOn l.pages l.page-index l.initial.test l.test
