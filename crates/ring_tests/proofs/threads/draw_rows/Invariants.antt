use Rattle.std.proofs.Common.{◌≤◌}
use Rattle.ring_tests.specs.Numbered.{IsDrawing}
use Rattle.ring_tests.proofs.threads.draw_rows.Given as goal

abbrev pub invariant-loop-turn : goal.invariant-loop-turn
invariant-loop-turn g l = record {
  drawing : IsDrawing l.total l.cursor l.reader;
  within : l.cursor ≤ l.stop;
}
