use Rattle.std.proofs.Common.{◌≡◌, ◌+◌}
use Rattle.press_feed.proofs.side_pages.pass_rows.Given as goal

abbrev pub invariant-loop-row : goal.invariant-loop-row
invariant-loop-row l = l.rows ≡ record l.initial.rows { next = l.initial.rows.next + l._row }
