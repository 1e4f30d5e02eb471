use Rattle.std.proofs.Common.{◌∙◌, List, ap, sym, subst, arith}
use Rattle.std.specs.Prelude.{All}
use Rattle.std.proofs.lemmas.Result.{err_from_is_err_and}
use Rattle.pr_base.specs.First.{first_some}
use Rattle.plan_parts.specs.Data.{LayerData, PageData}
use Rattle.press_job.specs.Findings.{HasLayer}
use Rattle.press_job.specs.Tests.{fit_fault, page_fit_fault}
use Rattle.pr_base.proofs.Firsts.{first_some-on, first_some-found, first_some-end}
use Rattle.press_job.proofs.fit.test_fit_on_pages.Goals as goal

pub test_fit_of_layers-requires : goal.test_fit_of_layers-requires
test_fit_of_layers-requires c =
    let here : All (HasLayer c.args.files.now) c.page-item.result.layers = subst {A = PageData} (λ p. All (HasLayer c.args.files.now) p.layers) (sym c.page-item.is) (c.requires c.loop-page.page-index c.page-item.result (omega arith)) in
    subst {A = List LayerData} (All (HasLayer c.args.files.now)) (sym c.layers_on.ensures) here

pub loop-page-preserved : goal.loop-page-preserved
loop-page-preserved c =
    first_some-on (page_fit_fault c.args.files.now.bytes) c.args.pages.now c.loop-page.page-index c.page-item.result (omega arith) c.loop-page.invariant (c.in_ok-test_fit_of_layers.ensures ∙ ap (first_some (fit_fault c.args.files.now.bytes)) c.layers_on.ensures ∙ ap (page_fit_fault c.args.files.now.bytes) c.page-item.is)

pub returns-in_err-test_fit_of_layers : goal.returns-in_err-test_fit_of_layers
returns-in_err-test_fit_of_layers c =
    let p = err_from_is_err_and c.from_residual.result c.from_residual.ensures.1 in
    rw (p.1, p.2)
    (first_some-found (page_fit_fault c.args.files.now.bytes) c.args.pages.now c.loop-page.page-index c.page-item.result _ (omega arith) c.loop-page.invariant (c.in_err-test_fit_of_layers.ensures ∙ ap (first_some (fit_fault c.args.files.now.bytes)) c.layers_on.ensures ∙ ap (page_fit_fault c.args.files.now.bytes) c.page-item.is))

pub returns : goal.returns
returns c = first_some-end (page_fit_fault c.args.files.now.bytes) c.args.pages.now c.loop-page.page-index (omega arith) (omega arith) c.loop-page.invariant
