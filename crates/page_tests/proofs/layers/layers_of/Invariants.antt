use Rattle.std.proofs.Common.{All}
use Rattle.page_layers.specs.Layer.{IsLayer}
use Rattle.page_tests.proofs.layers.layers_of.Given as goal

abbrev pub invariant-loop-laid : goal.invariant-loop-laid
invariant-loop-laid g l = All IsLayer l.layers.items
