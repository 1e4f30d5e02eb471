use Rattle.std.proofs.Common.{◌≡◌}
use Rattle.press_feed.specs.Drawn.{behind_rows}
use Rattle.press_feed.proofs.drawn_rows.DrawnRows.diffuse.Given as goal

abbrev pub invariant-loop-k : goal.invariant-loop-k
invariant-loop-k l = l.self ≡ behind_rows l.k l.fn.self
