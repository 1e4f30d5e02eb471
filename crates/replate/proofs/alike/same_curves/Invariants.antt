use Rattle.std.proofs.Common.{◌≡◌, take}
use Rattle.replate.proofs.alike.same_curves.Given as goal

abbrev pub invariant-loop-i : goal.invariant-loop-i
invariant-loop-i l = take l.i l.before ≡ take l.i l.after
