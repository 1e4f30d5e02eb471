use Rattle.replate.specs.Wanted.{AreWanted}
use Rattle.replate.proofs.wanted.wanted_inks.Given as goal

abbrev pub invariant-loop-index : goal.invariant-loop-index
invariant-loop-index l = AreWanted l.picks l.after.plan l.index l.flags.items
