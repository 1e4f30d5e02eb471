use Rattle.std.proofs.Common.{◌≡◌, ◌*◌, length}
use Rattle.run_tests.proofs.realistic.samples.Given as goal

abbrev pub invariant-loop-pixel : goal.invariant-loop-pixel
invariant-loop-pixel g l = length l.samples.items ≡ 4 * l.pixel
