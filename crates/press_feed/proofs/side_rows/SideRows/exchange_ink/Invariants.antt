use Rattle.press_feed.specs.Frames.{AreOf}
use Rattle.press_feed.specs.SideRows.{IsExchanged}
use Rattle.press_feed.proofs.side_rows.SideRows.exchange_ink.Given as goal

abbrev pub invariant-loop-other : goal.invariant-loop-other
invariant-loop-other l = record { own : IsExchanged l.fn.self l.self; others : AreOf l.fn.self.job l.others }
