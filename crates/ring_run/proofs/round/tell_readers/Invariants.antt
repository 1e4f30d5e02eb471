use Rattle.std.proofs.Common.{◌≡◌}
use Rattle.ring_run.specs.Round.{IsTold}
use Rattle.ring_run.proofs.Rounds.{ToldUpTo}
use Rattle.ring_run.proofs.round.tell_readers.Given as goal

abbrev pub invariant-loop-i : goal.invariant-loop-i
invariant-loop-i g l = record {
  same : l.writer ≡ l.initial.writer;
  told : ToldUpTo (IsTold l.initial.writer) l.initial.seats l.seats l.i;
}
