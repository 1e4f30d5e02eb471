use Rattle.press_feed.specs.Frames.{AreOf}
use Rattle.press_feed.proofs.side_band.open_rows.Given as goal

abbrev pub invariant-loop-index : goal.invariant-loop-index
invariant-loop-index l = AreOf l.job l.rows.items
