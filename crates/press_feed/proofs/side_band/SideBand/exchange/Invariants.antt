use Rattle.std.proofs.Common.{◌≡◌}
use Rattle.press_feed.proofs.side_band.SideBand.exchange.Given as goal

abbrev pub invariant-loop-index : goal.invariant-loop-index
invariant-loop-index l = l.self ≡ l.initial.self
