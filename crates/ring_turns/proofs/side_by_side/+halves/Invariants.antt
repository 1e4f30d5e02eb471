use Rattle.std.proofs.Common.{length, ◌+◌, ◌-◌, ◌*◌}
use Rattle.ring_turns.proofs.side_by_side.+halves.Given as goal

abbrev pub decreases-turns : goal.decreases-turns
decreases-turns g l = 4 * length l.all.now

abbrev pub decreases-join_halves : goal.decreases-join_halves
decreases-join_halves g l = 4 * (length l.a.now + length l.b.now) - 1

abbrev pub decreases-join_halves-join_mut+arg2 : goal.decreases-join_halves-join_mut+arg2
decreases-join_halves-join_mut+arg2 g l = 4 * length l.a.now + 1

abbrev pub decreases-join_halves-join_mut+arg3 : goal.decreases-join_halves-join_mut+arg3
decreases-join_halves-join_mut+arg3 g l = 4 * length l.b.now + 1
