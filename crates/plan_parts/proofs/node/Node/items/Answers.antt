use Rattle.std.proofs.Common.{arith}
use Rattle.plan_parts.proofs.Lists.{items_within-read}
use Rattle.plan_parts.proofs.node.Node.items.Goals as goal

pub returns-clause-value : goal.returns-clause-value
returns-clause-value c = items_within-read _ _ _ _ _ c.in_ok-values.ensures (omega arith) (omega arith)
