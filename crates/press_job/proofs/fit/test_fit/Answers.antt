use Rattle.std.proofs.Common.{rules, ◌≡◌, List, sym, subst}
use Rattle.std.specs.Prelude.{All}
use Rattle.plan_parts.specs.Data.{PageData}
use Rattle.press_job.specs.Findings.{HasLayer}
use Rattle.press_job.proofs.fit.test_fit.Goals as goal

pub test_fit_on_pages-requires : goal.test_fit_on_pages-requires
test_fit_on_pages-requires c =
    let at : c.as_slice.result.now ≡ c.args.plan.now.pages = search rules in
    let P : List PageData → Type 0 = λ pages. All (λ (page : PageData). All (HasLayer c.args.files.now) page.layers) pages in
    subst P (sym at) c.requires.each
