use Rattle.std.proofs.Common.{◌≡◌}
use Rattle.page_tests.proofs.diffusion.drawn.Given as goal

-- the diffuser keeps its width
abbrev pub invariant-loop-values : goal.invariant-loop-values
invariant-loop-values g l = l.diffuser.width ≡ l.fn.diffuser.width
