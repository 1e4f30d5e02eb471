use Rattle.ring_turns.specs.Turns.{AreTurned, MayAllTurn}
use Rattle.ring_turns.proofs.one_thread.turns_in_one_thread.Given as goal

abbrev pub invariant-loop-pass : goal.invariant-loop-pass
invariant-loop-pass g l = record {
  turned : AreTurned g.X.TurnWith.turned l.fn.all l.fn.others l.all l.others;
  may : MayAllTurn g.X.TurnWith.may l.all l.others;
}
