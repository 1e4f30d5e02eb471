use Rattle.std.proofs.Common.{None}
use Rattle.ring_turns.proofs.one_thread.turns_of_one.Given as goal

abbrev pub invariant-loop-look : goal.invariant-loop-look
invariant-loop-look g l = record {
  turned : g.X.TurnWith.turned l.fn.one None l.one None;
  may : g.X.TurnWith.may l.one None;
}
