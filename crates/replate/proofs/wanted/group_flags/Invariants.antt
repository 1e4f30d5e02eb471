use Rattle.std.proofs.Common.{◌≡◌, length}
use Rattle.replate.proofs.WantedLemmas.{AreFlags}
use Rattle.replate.proofs.wanted.group_flags.Given as goal

abbrev pub invariant-loop-ink : goal.invariant-loop-ink
invariant-loop-ink l = record {
  long : length l.flags ≡ 5;
  flags' : AreFlags l.picks l.group l.index l.ink-index l.flags;
}
