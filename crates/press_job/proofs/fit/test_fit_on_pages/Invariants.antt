use Rattle.std.proofs.Common.{◌≡◌, drop}
use Rattle.pr_base.specs.First.{first_some}
use Rattle.press_job.specs.Tests.{page_fit_fault}
use Rattle.press_job.proofs.fit.test_fit_on_pages.Given as goal

abbrev pub invariant-loop-page : goal.invariant-loop-page
invariant-loop-page l = first_some (page_fit_fault l.files.bytes) l.pages ≡ first_some (page_fit_fault l.files.bytes) (drop l.page-index l.pages)
