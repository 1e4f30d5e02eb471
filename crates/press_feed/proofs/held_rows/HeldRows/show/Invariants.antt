use Rattle.std.proofs.Common.{◌≡◌}
use Rattle.press_feed.specs.HeldRows.{next_rows}
use Rattle.press_feed.proofs.held_rows.HeldRows.show.Given as goal

abbrev pub invariant-loop-row : goal.invariant-loop-row
invariant-loop-row l = l.self ≡ next_rows l._row l.fn.self
