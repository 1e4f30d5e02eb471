use Rattle.std.proofs.Common.{arith}
use Rattle.drill_mem.proofs.Counting.{counted_all, counted_more}
use Rattle.drill_mem.proofs.dots.ones_in.Goals as goal

pub returns-in_default-clause-ones : goal.returns-in_default-clause-ones
returns-in_default-clause-ones c = counted_all _ _ _ _ _ c.loop-index.invariant c.in_default.ensures.next (omega arith)

pub loop-index-preserved : goal.loop-index-preserved
loop-index-preserved c =
    counted_more _ _ _ _ _ _ c.loop-index.invariant c.in-Some.ensures.next _ c.set_bits-ones.ensures.ones c.set_bits-ones.ensures.most
