use Rattle.std.proofs.Common.{ℕ, ◌<◌, get_or}
use Rattle.press_feed.specs.InkRows.{InkData, IsReady}
use Rattle.press_feed.proofs.side_rows.are_ready.Given as goal

abbrev pub invariant-loop-ink : goal.invariant-loop-ink
invariant-loop-ink l = (k : ℕ) (d : InkData) → k < l.ink-index → IsReady l.group l.page l.first (get_or l.inks k d)
