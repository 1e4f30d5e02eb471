use Rattle.std.proofs.Common.{◌≡◌, map, take}
use Rattle.press_feed.specs.Drawn.{blank_rows}
use Rattle.press_feed.specs.SideRows.{drawns}
use Rattle.press_feed.proofs.side_rows.open_inks.Given as goal

abbrev pub invariant-loop-ink : goal.invariant-loop-ink
invariant-loop-ink l = drawns l.rows.items ≡ map (blank_rows l.job l.side l.room) (take l.ink-index l.inks)
