use Rattle.std.proofs.Common.{rules, ◌≡◌, List, refl, subst}
use Rattle.std.specs.Prelude.{All}
use Rattle.plan_parts.specs.Data.{PageData}
use Rattle.press_job.specs.Tested.{PassesIn}
use Rattle.press_job.proofs.FindingLemmas.{records_for, untested}
use Rattle.press_job.proofs.file_test.test_file.Goals as goal

pub test_uses_on_pages-requires : goal.test_uses_on_pages-requires
test_uses_on_pages-requires g c = (search rules, untested _ refl refl refl)

pub returns-clause-found : goal.returns-clause-found
returns-clause-found g c =
    let new = c.test_uses_on_pages.new.test in
    let ok = c.in_ok-test_uses_on_pages.ensures in
    let at : c.as_slice.result.now ≡ c.args.plan.now.pages = search rules in
    let P : List PageData → Type 0 = λ pages. All (λ (page : PageData). All (PassesIn new) page.layers) pages in
    records_for c.args.plan.now _ new ok.goes_on (subst P at ok.passed)
