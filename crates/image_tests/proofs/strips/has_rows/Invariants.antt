use Rattle.std.proofs.Common.{◌≡◌}
use Rattle.image_tests.proofs.strips.has_rows.Given as goal

abbrev pub invariant-loop-row : goal.invariant-loop-row
invariant-loop-row g l = l.cursor.shape ≡ l.fn.cursor.shape
