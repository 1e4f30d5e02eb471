use Rattle.press_feed.specs.InkRows.{restarted}
use Rattle.press_feed.proofs.MapLemmas.{AreStepped}
use Rattle.press_feed.proofs.side_rows.restart_all.Given as goal

abbrev pub invariant-loop-ink : goal.invariant-loop-ink
invariant-loop-ink l = AreStepped (restarted l.group l.page) l.ink-index l.fn.inks l.inks
