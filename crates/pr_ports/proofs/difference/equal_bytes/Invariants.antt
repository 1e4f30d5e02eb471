use Rattle.std.proofs.Common.{◌-◌}
use Rattle.pr_ports.specs.Difference.{IsAlikeTo}
use Rattle.pr_ports.proofs.difference.equal_bytes.Given as goal

abbrev pub invariant-loop-at : goal.invariant-loop-at
invariant-loop-at l = IsAlikeTo l.a l.b l.at

abbrev pub decreases-loop-at : goal.decreases-loop-at
decreases-loop-at l = l.both - l.at
