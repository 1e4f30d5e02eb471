use Rattle.std.proofs.Common.{sym, arith}
use Rattle.pr_ports.proofs.Differences.{difference-at, difference-whole}
use Rattle.pr_ports.proofs.difference.first_difference.Goals as goal
use Rattle.pr_ports.proofs.difference.first_difference.Goals.{else-at-a-via-then-at-a+else-at-b, else-at-a-via-else-at-a}

pub returns-then-at-b-clause-first : goal.returns-then-at-b-clause-first
returns-then-at-b-clause-first c =
    sym (difference-whole c.args.a.now c.args.b.now c.equal_bytes-at.result c.equal_bytes-at.ensures.alike (omega arith) (omega arith))

pub returns-else-at-a-clause-first : goal.returns-else-at-a-clause-first
returns-else-at-a-clause-first c =
    sym (difference-at c.args.a.now c.args.b.now c.equal_bytes-at.result c.equal_bytes-at.ensures.alike
    (λ p q. elim c.else-at-a.branch [ else-at-a-via-then-at-a+else-at-b w ↦ omega arith | else-at-a-via-else-at-a w ↦ omega arith ])
    c.equal_bytes-at.ensures.ends)
