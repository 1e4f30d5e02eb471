use Rattle.page_layers.specs.Inks.{HasWidth}
use Rattle.page_tests.proofs.layers.assert_in_inks.Given as goal

abbrev pub invariant-loop-rows : goal.invariant-loop-rows
invariant-loop-rows g l = HasWidth l.room l.page.width
