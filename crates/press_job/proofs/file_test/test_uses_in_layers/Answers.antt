use Rattle.std.proofs.Common.{rules, arith}
use Rattle.std.proofs.lemmas.Result.{err_from_is_err_and}
use Rattle.plan_parts.specs.Data.{LayerData}
use Rattle.press_job.specs.Tested.{PassesIn}
use Rattle.press_job.specs.Tests.{layer_fault}
use Rattle.press_job.proofs.FindingLemmas.{passes_still, stands, tested_all, tested_more, tested_refused}
use Rattle.press_job.proofs.file_test.test_uses_in_layers.Goals as goal

pub test_uses_in_layer-requires : goal.test_uses_in_layer-requires
test_uses_in_layer-requires g c = (search rules, c.loop-layer.invariant.goes_on.tested)

pub loop-layer-init : goal.loop-layer-init
loop-layer-init g c = record { goes_on = stands c.args.test.now c.requires; ahead = search rules; passed = search rules }

pub loop-layer-preserved : goal.loop-layer-preserved
loop-layer-preserved g c =
    let ok = c.in_ok-test_uses_in_layer.ensures in
    tested_more LayerData layer_fault PassesIn c.args.layers.now c.loop-layer.layer-index c.args.test.now c.loop-layer.test c.test_uses_in_layer.new.test _ c.loop-layer.invariant
    (λ layer. passes_still c.loop-layer.test c.test_uses_in_layer.new.test layer ok.goes_on) (omega arith) ok.goes_on ok.first ok.passed

pub returns-in_err-test_uses_in_layer-clause-first : goal.returns-in_err-test_uses_in_layer-clause-first
returns-in_err-test_uses_in_layer-clause-first g c =
    let p = err_from_is_err_and c.from_residual.result c.from_residual.ensures.1 in
    rw (p.1, p.2)
    (tested_refused LayerData layer_fault PassesIn c.args.layers.now c.loop-layer.layer-index c.args.test.now c.loop-layer.test _ c.in_err-test_uses_in_layer.field-0.0 c.loop-layer.invariant (omega arith)
    c.in_err-test_uses_in_layer.ensures.first)

pub returns-clause-first : goal.returns-clause-first
returns-clause-first g c = (tested_all LayerData layer_fault PassesIn c.args.layers.now c.loop-layer.layer-index c.args.test.now c.loop-layer.test c.loop-layer.invariant (omega arith) (omega arith)).0

pub returns-clause-passed : goal.returns-clause-passed
returns-clause-passed g c = (tested_all LayerData layer_fault PassesIn c.args.layers.now c.loop-layer.layer-index c.args.test.now c.loop-layer.test c.loop-layer.invariant (omega arith) (omega arith)).1
