use Rattle.std.proofs.Common.{All, ◌≡◌, length}
use Rattle.page_layers.specs.Inks.{HasWidth}
use Rattle.press_feed.proofs.held_rows.printed_rows.Given as goal

abbrev pub invariant-loop-row : goal.invariant-loop-row
invariant-loop-row l = record {
  long : length l.rows.items ≡ l._row;
  wide : All (λ row. HasWidth row l.plan.page_width) l.rows.items;
}
