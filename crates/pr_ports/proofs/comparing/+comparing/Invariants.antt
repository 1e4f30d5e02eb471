use Rattle.std.proofs.Common.{◌*◌, ◌+◌, length}
use Rattle.pr_ports.proofs.comparing.+comparing.Given as goal

abbrev pub decreases-compare_wide : goal.decreases-compare_wide
decreases-compare_wide g l = 2 * length l.room.now

abbrev pub decreases-join_mut+arg2 : goal.decreases-join_mut+arg2
decreases-join_mut+arg2 g l = 2 * length l.one_room.now + 1

abbrev pub decreases-join_mut+arg3 : goal.decreases-join_mut+arg3
decreases-join_mut+arg3 g l = 2 * length l.other_room.now + 1
