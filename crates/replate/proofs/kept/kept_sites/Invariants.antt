use Rattle.std.proofs.Common.{◌≡◌, length}
use Rattle.replate.specs.Standing.{AreKept}
use Rattle.replate.proofs.kept.kept_sites.Given as goal

abbrev pub invariant-loop-site : goal.invariant-loop-site
invariant-loop-site l = record {
  long : length l.row ≡ 16;
  kept : AreKept l.jobs.before.now l.jobs.after.now l.group l.site l.row;
}
