use Rattle.plan_parts.specs.Data.{LayerData}
use Rattle.press_job.specs.Tested.{PassesIn}
use Rattle.press_job.specs.Tests.{layer_fault}
use Rattle.press_job.proofs.FindingLemmas.{AreTested}
use Rattle.press_job.proofs.file_test.test_uses_in_layers.Given as goal

abbrev pub invariant-loop-layer : goal.invariant-loop-layer
invariant-loop-layer g l = AreTested LayerData layer_fault PassesIn l.layers l.layer-index l.initial.test l.test
