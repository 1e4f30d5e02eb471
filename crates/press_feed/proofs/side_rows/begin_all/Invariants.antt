use Rattle.press_feed.specs.InkRows.{begun}
use Rattle.press_feed.proofs.MapLemmas.{AreStepped}
use Rattle.press_feed.proofs.side_rows.begin_all.Given as goal

abbrev pub invariant-loop-ink : goal.invariant-loop-ink
invariant-loop-ink l = AreStepped (begun l.group l.page l.first) l.ink-index l.fn.inks l.inks
