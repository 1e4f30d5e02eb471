use Rattle.std.proofs.Common.{length}
use Rattle.plan_parts.proofs.read_curves.+is_rising.Given as goal

abbrev pub decreases-is_rising : goal.decreases-is_rising
decreases-is_rising l = length l.points.now
