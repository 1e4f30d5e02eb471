use Rattle.std.proofs.Common.{None}
use Rattle.ring_turns.specs.Turns.{AreTurned, MayAllTurn}
use Rattle.ring_turns.proofs.one_thread.turns_together.Given as goal

abbrev pub invariant-loop-pass : goal.invariant-loop-pass
invariant-loop-pass g l = record {
  one : g.W.TurnWith.turned l.fn.one None l.one None;
  may_one : g.W.TurnWith.may l.one None;
  turned : AreTurned g.X.TurnWith.turned l.fn.all l.fn.others l.all l.others;
  may : MayAllTurn g.X.TurnWith.may l.all l.others;
}
