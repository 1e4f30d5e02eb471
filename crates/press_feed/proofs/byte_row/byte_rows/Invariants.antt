use Rattle.std.proofs.Common.{All, ◌≡◌, length, replicate}
use Rattle.press_feed.proofs.byte_row.byte_rows.Given as goal

abbrev pub invariant-loop-row : goal.invariant-loop-row
invariant-loop-row l = record {
  long : length l.rows.items ≡ l._row;
  each : All (λ row. row ≡ replicate l.len 0) l.rows.items;
}
