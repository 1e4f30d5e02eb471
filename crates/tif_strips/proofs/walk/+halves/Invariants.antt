use Rattle.std.proofs.Common.{◌+◌, ◌-◌, ◌*◌}
use Rattle.tif_strips.proofs.walk.+halves.Given as goal

abbrev pub decreases-test_wide : goal.decreases-test_wide
decreases-test_wide g l = 4 * l.count

abbrev pub decreases-test_both : goal.decreases-test_both
decreases-test_both g l = 4 * (l.half + l.rest) - 1

abbrev pub decreases-test_both-join_mut+arg2 : goal.decreases-test_both-join_mut+arg2
decreases-test_both-join_mut+arg2 g l = 4 * l.half + 1

abbrev pub decreases-test_both-join_mut+arg3 : goal.decreases-test_both-join_mut+arg3
decreases-test_both-join_mut+arg3 g l = 4 * l.rest + 1
