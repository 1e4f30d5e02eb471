use Rattle.std.proofs.Common.{◌≡◌, ℕ, ◌<◌, vec_len, get_or}
use Rattle.pr_base.specs.declared.ink.Ink.{Ink}
use Rattle.press_feed.specs.declared.screener.Screener.{Screener}
use Rattle.press_feed.specs.Screener.{IsScreener}
use Rattle.press_feed.proofs.screener.open_screeners.Given as goal

abbrev pub invariant-loop-ink : goal.invariant-loop-ink
invariant-loop-ink l = record {
  long : vec_len l.screeners ≡ l.ink-index;
  each : (k : ℕ) (e : Ink) (d : Screener) → k < l.ink-index → IsScreener l.plan (get_or l.ink-items k e) (get_or l.screeners.items k d);
}
