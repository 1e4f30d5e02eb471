use Rattle.std.proofs.Common.{◌≡◌, drop}
use Rattle.pr_base.specs.First.{first_some}
use Rattle.press_job.specs.Tests.{fit_fault}
use Rattle.press_job.proofs.fit.test_fit_of_layers.Given as goal

abbrev pub invariant-loop-layer : goal.invariant-loop-layer
invariant-loop-layer l = first_some (fit_fault l.files.bytes) l.layers ≡ first_some (fit_fault l.files.bytes) (drop l.layer-index l.layers)
