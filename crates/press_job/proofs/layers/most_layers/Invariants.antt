use Rattle.std.proofs.Common.{ℕ, ◌<◌, ◌≤◌, length}
use Rattle.press_job.specs.Layers.{planned_layers}
use Rattle.press_job.proofs.layers.most_layers.Given as goal

abbrev pub invariant-loop-page : goal.invariant-loop-page
invariant-loop-page l = (page : ℕ) → page < l.page-index → length (planned_layers l.job.plan page) ≤ l.most
