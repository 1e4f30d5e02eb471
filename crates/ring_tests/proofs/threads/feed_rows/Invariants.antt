use Rattle.std.proofs.Common.{◌≤◌}
use Rattle.ring_tests.specs.Numbered.{IsFeeding}
use Rattle.ring_tests.proofs.threads.feed_rows.Given as goal

abbrev pub invariant-loop-turn : goal.invariant-loop-turn
invariant-loop-turn l = record {
  feeding : IsFeeding l.total l.head l.writer;
  within : l.head ≤ l.total;
}
