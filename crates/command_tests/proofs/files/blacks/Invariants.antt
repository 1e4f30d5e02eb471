use Rattle.std.proofs.Common.{◌≡◌, ◌*◌, length}
use Rattle.command_tests.proofs.files.blacks.Given as goal

abbrev pub invariant-loop-pixel : goal.invariant-loop-pixel
invariant-loop-pixel g l = length l.samples.items ≡ 4 * l._pixel
