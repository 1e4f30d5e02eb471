use Rattle.std.proofs.Common.{◌≡◌, map, take}
use Rattle.press_job.specs.Layers.{layer_of}
use Rattle.press_job.proofs.layers.put_layers.Given as goal

abbrev pub invariant-loop-layer : goal.invariant-loop-layer
invariant-loop-layer l = l.rows ≡ record l.fn.rows { layers = map (layer_of l.job.files) (take l.layer-index l.planned); next = 0 }
