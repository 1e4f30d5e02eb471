use Rattle.std.proofs.Common.{◌-◌, length}
use Rattle.pr_ports.specs.Offset.{IsShare}
use Rattle.pr_ports.proofs.comparing.compare_share.Given as goal

abbrev pub invariant-loop-at : goal.invariant-loop-at
invariant-loop-at g l = IsShare (g.F.OffsetRead.whole l.file) l.offset l.bytes l.at

abbrev pub decreases-loop-at : goal.decreases-loop-at
decreases-loop-at g l = length l.bytes - l.at
