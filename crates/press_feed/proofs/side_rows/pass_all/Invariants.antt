use Rattle.press_feed.specs.InkRows.{passed}
use Rattle.press_feed.proofs.MapLemmas.{AreStepped}
use Rattle.press_feed.proofs.side_rows.pass_all.Given as goal

abbrev pub invariant-loop-ink : goal.invariant-loop-ink
invariant-loop-ink l = AreStepped (passed l.group) l.ink-index l.fn.inks l.inks
