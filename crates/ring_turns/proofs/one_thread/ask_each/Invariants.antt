use Rattle.ring_turns.proofs.OneThread.{TurnedUpTo}
use Rattle.ring_turns.proofs.one_thread.ask_each.Given as goal

abbrev pub invariant-loop-i : goal.invariant-loop-i
invariant-loop-i g l = TurnedUpTo g.X.TurnWith.turned l.initial.all l.initial.others l.all l.others l.i
