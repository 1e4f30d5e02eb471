use Rattle.std.proofs.Common.{◌≤◌}
use Rattle.press_feed.proofs.ink_shares.inks_of_share.Given as goal

abbrev pub invariant-loop-index : goal.invariant-loop-index
invariant-loop-index l = l.end ≤ 5
