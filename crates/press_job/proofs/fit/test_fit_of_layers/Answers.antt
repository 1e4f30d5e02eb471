use Rattle.std.proofs.Common.{arith}
use Rattle.std.proofs.lemmas.Result.{err_from_is_err_and}
use Rattle.press_job.specs.Tests.{fit_fault}
use Rattle.pr_base.proofs.Firsts.{first_some-on, first_some-found, first_some-end}
use Rattle.press_job.proofs.fit.test_fit_of_layers.Goals as goal

pub test_fit_of_layer-requires : goal.test_fit_of_layer-requires
test_fit_of_layer-requires c = c.requires c.loop-layer.layer-index _ (omega arith)

pub loop-layer-preserved : goal.loop-layer-preserved
loop-layer-preserved c =
    first_some-on (fit_fault c.args.files.now.bytes) c.args.layers.now c.loop-layer.layer-index _ (omega arith) c.loop-layer.invariant (c.in_ok-test_fit_of_layer.ensures)

pub returns-in_err-test_fit_of_layer : goal.returns-in_err-test_fit_of_layer
returns-in_err-test_fit_of_layer c =
    let p = err_from_is_err_and c.from_residual.result c.from_residual.ensures.1 in
    rw (p.1, p.2)
    (first_some-found (fit_fault c.args.files.now.bytes) c.args.layers.now c.loop-layer.layer-index _ _ (omega arith) c.loop-layer.invariant (c.in_err-test_fit_of_layer.ensures))

pub returns : goal.returns
returns c = first_some-end (fit_fault c.args.files.now.bytes) c.args.layers.now c.loop-layer.layer-index (omega arith) (omega arith) c.loop-layer.invariant
