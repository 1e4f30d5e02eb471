use Rattle.page_layers.specs.Inks.{HasWidth}
use Rattle.page_tests.proofs.layers.assert_rows.Given as goal

abbrev pub invariant-loop-repeats : goal.invariant-loop-repeats
invariant-loop-repeats g l = HasWidth l.room l.page.width
