use Rattle.press_feed.specs.Frames.{AreOf}
use Rattle.press_feed.specs.SideRows.{IsExchanged}
use Rattle.press_feed.proofs.side_rows.SideRows.exchange.Given as goal

abbrev pub invariant-loop-index : goal.invariant-loop-index
invariant-loop-index l = record { own : IsExchanged l.fn.self l.self; others : AreOf l.fn.self.job l.others }
