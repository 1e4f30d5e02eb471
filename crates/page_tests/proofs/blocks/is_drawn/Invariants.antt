use Rattle.std.proofs.Common.{◌≡◌}
use Rattle.page_tests.proofs.blocks.is_drawn.Given as goal

abbrev pub invariant-loop-k : goal.invariant-loop-k
invariant-loop-k l = (l.single.width ≡ l.width)
