use Rattle.std.proofs.Common.{◌≡◌, ℕ, ◌<◌}
use Rattle.plan_rows.specs.Paths.{site_name}
use Rattle.replate.proofs.standing.site_named.Given as goal

abbrev pub invariant-loop-site : goal.invariant-loop-site
invariant-loop-site l = (k : ℕ) → k < l.site → site_name l.plan k ≡ l.name → ⊥
