use Rattle.std.proofs.Common.{◌≡◌, ◌+◌}
use Rattle.image_tests.proofs.strips.is_blank.Given as goal

abbrev pub invariant-loop-y : goal.invariant-loop-y
invariant-loop-y l = record {
  shape : l.cursor.shape ≡ l.fn.cursor.shape;
  next : l.cursor.next ≡ l.fn.cursor.next + l._y;
}
