use Rattle.std.proofs.Common.{◌-◌, length}
use Rattle.pr_ports.specs.Offset.{IsShare}
use Rattle.pr_ports.proofs.shares.fill_share.Given as goal

abbrev pub invariant-loop-at : goal.invariant-loop-at
invariant-loop-at g l = IsShare (g.F.OffsetRead.whole l.file) l.offset l.into l.at

abbrev pub decreases-loop-at : goal.decreases-loop-at
decreases-loop-at g l = length l.into - l.at
