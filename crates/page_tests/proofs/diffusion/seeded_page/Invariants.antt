use Rattle.std.proofs.Common.{◌≡◌}
use Rattle.page_tests.proofs.diffusion.seeded_page.Given as goal

-- the diffuser keeps its width
abbrev pub invariant-loop-expected : goal.invariant-loop-expected
invariant-loop-expected g l = l.diffuser.width ≡ 61
