use Rattle.std.proofs.Common.{◌≡◌, length}
use Rattle.replate.proofs.PassLemmas.{PassedUpTo}
use Rattle.replate.proofs.remaking.pass_row.Given as goal

abbrev pub invariant-loop-i : goal.invariant-loop-i
invariant-loop-i l = record {
  long : length l.makers ≡ length l.initial.makers;
  passed' : PassedUpTo l.initial.makers l.makers l.i;
}
