use Rattle.page_layers.specs.Inks.{HasWidth}
use Rattle.page_tests.proofs.layers.assert_turns.Given as goal

abbrev pub invariant-loop-inks : goal.invariant-loop-inks
invariant-loop-inks g l = HasWidth l.room l.page.width
