use Rattle.std.proofs.Common.{◌≡◌}
use Rattle.ring_run.specs.Round.{KnowsMore}
use Rattle.ring_run.proofs.Rounds.{KnowsUpTo}
use Rattle.ring_run.proofs.round.tell_writer.Given as goal

abbrev pub invariant-loop-i : goal.invariant-loop-i
invariant-loop-i g l = record {
  seats : l.seats ≡ l.initial.seats;
  same : l.writer ≡ record l.initial.writer { known = l.writer.known; loads = l.writer.loads };
  more : KnowsMore l.initial.writer.known l.writer.known;
  knows : KnowsUpTo l.writer.known l.initial.seats l.i;
}
