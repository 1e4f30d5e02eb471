use Rattle.std.proofs.Common.{ℕ, ◌<◌, ◌≤◌}
use Rattle.site_agent.proofs.Finding.{IsNoRowOf}
use Rattle.site_agent.proofs.site.Site.place.Given as goal

abbrev pub invariant-loop-i : goal.invariant-loop-i
invariant-loop-i l = record {
  from : l.self-inside.finished ≤ l.i;
  none : (j : ℕ) → j < l.i → IsNoRowOf l.self.job l.self.next j;
}
