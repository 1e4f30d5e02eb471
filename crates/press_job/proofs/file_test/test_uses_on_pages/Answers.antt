use Rattle.std.proofs.Common.{rules, ◌≡◌, None, List, subst, arith}
use Rattle.std.specs.Prelude.{All}
use Rattle.std.proofs.lemmas.Result.{err_from_is_err_and}
use Rattle.pr_base.specs.First.{first_some}
use Rattle.plan_parts.specs.Data.{LayerData, PageData}
use Rattle.press_job.specs.Tested.{PassesIn}
use Rattle.press_job.specs.Tests.{layer_fault, page_fault}
use Rattle.press_job.proofs.FindingLemmas.{PassesOn, Refuses, page_still, stands, tested_all, tested_more, tested_refused}
use Rattle.press_job.proofs.file_test.test_uses_on_pages.Goals as goal

pub test_uses_in_layers-requires : goal.test_uses_in_layers-requires
test_uses_in_layers-requires g c = (search rules, c.loop-page.invariant.goes_on.tested)

pub loop-page-init : goal.loop-page-init
loop-page-init g c = record { goes_on = stands c.args.test.now c.requires; ahead = search rules; passed = search rules }

pub loop-page-preserved : goal.loop-page-preserved
loop-page-preserved g c =
    let now = c.loop-page.test in
    let next = c.test_uses_in_layers.new.test in
    let ok = c.in_ok-test_uses_in_layers.ensures in
    let none : page_fault now.file now.bytes.now c.page-item.result ≡ None = subst {A = List LayerData} (λ layers. first_some (layer_fault now.file now.bytes.now) layers ≡ None) c.layers_on.ensures ok.first in
    let here : PassesOn next c.page-item.result = subst {A = List LayerData} (All (PassesIn next)) c.layers_on.ensures ok.passed in
    tested_more PageData page_fault PassesOn c.args.pages.now c.loop-page.page-index c.args.test.now now next c.page-item.result c.loop-page.invariant
    (λ page. page_still now next page ok.goes_on) (omega arith) ok.goes_on (subst {A = PageData} (λ p. page_fault now.file now.bytes.now p ≡ None) c.page-item.is none) (subst {A = PageData} (PassesOn next) c.page-item.is here)

pub returns-in_err-test_uses_in_layers-clause-first : goal.returns-in_err-test_uses_in_layers-clause-first
returns-in_err-test_uses_in_layers-clause-first g c =
    let p = err_from_is_err_and c.from_residual.result c.from_residual.ensures.1 in
    let now = c.loop-page.test in
    let e = c.in_err-test_uses_in_layers.field-0.0 in
    let told : Refuses e (page_fault now.file now.bytes.now c.page-item.result) = subst {A = List LayerData} (λ layers. Refuses e (first_some (layer_fault now.file now.bytes.now) layers)) c.layers_on.ensures c.in_err-test_uses_in_layers.ensures.first in
    rw (p.1, p.2)
    (tested_refused PageData page_fault PassesOn c.args.pages.now c.loop-page.page-index c.args.test.now now c.page-item.result e c.loop-page.invariant (omega arith)
    (subst {A = PageData} (λ page. Refuses e (page_fault now.file now.bytes.now page)) c.page-item.is told))

pub returns-clause-first : goal.returns-clause-first
returns-clause-first g c = (tested_all PageData page_fault PassesOn c.args.pages.now c.loop-page.page-index c.args.test.now c.loop-page.test c.loop-page.invariant (omega arith) (omega arith)).0

pub returns-clause-passed : goal.returns-clause-passed
returns-clause-passed g c = (tested_all PageData page_fault PassesOn c.args.pages.now c.loop-page.page-index c.args.test.now c.loop-page.test c.loop-page.invariant (omega arith) (omega arith)).1
