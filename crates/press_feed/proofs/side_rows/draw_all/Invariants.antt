use Rattle.press_feed.specs.InkRows.{drawn_on}
use Rattle.press_feed.proofs.MapLemmas.{AreStepped}
use Rattle.press_feed.proofs.side_rows.draw_all.Given as goal

abbrev pub invariant-loop-ink : goal.invariant-loop-ink
invariant-loop-ink l = AreStepped (drawn_on l.group l.held.count) l.ink-index l.fn.inks l.inks
