use Rattle.std.proofs.Common.{arith}
use Rattle.pr_ports.proofs.Differences.{IsAlikeTo-equal}
use Rattle.pr_ports.proofs.difference.equal_pieces.Goals as goal

pub loop-at-preserved : goal.loop-at-preserved
loop-at-preserved c =
    IsAlikeTo-equal c.args.a.now c.args.b.now c.loop-at.at 4096 _ (omega arith) c.loop-at.invariant (omega arith) (omega arith) c.if-eq.ensures
