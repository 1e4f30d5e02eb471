use Rattle.std.proofs.Common.{◌≤◌, ◌*◌}
use Rattle.press_feed.proofs.ink_shares.work_before.Given as goal

abbrev pub invariant-loop-index : goal.invariant-loop-index
invariant-loop-index l = l.before ≤ 4 * l.index
