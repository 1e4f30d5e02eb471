use Rattle.std.proofs.Common.{◌≡◌, [], ◌<◌}
use Rattle.page_layers.specs.Inks.{HasWidth}
use Rattle.page_tests.proofs.columns.assert_columns.Given as goal

abbrev pub invariant-loop-first : goal.invariant-loop-first
invariant-loop-first g l = record {
  none : l.page.layers ≡ [];
  top : l.page.next ≡ 0;
  high : 0 < l.page.height;
  place : 0 < l.page.room;
  width : HasWidth l.room l.page.width;
}
