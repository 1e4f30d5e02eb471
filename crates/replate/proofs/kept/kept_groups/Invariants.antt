use Rattle.std.proofs.Common.{◌≡◌, length}
use Rattle.replate.specs.Standing.{AreAllKept}
use Rattle.replate.proofs.kept.kept_groups.Given as goal

abbrev pub invariant-loop-index : goal.invariant-loop-index
invariant-loop-index l = record {
  count : length l.kept.items ≡ l.index;
  rows : AreAllKept l.fn.before l.after l.index l.kept.items;
}
