use Rattle.std.proofs.Common.{◌∙◌, length, sym, ap}
use Rattle.plan_json.specs.Data.{PlanData}
use Rattle.cmd_run.proofs.DrillDots.{ends_count}
use Rattle.cmd_run.proofs.dots.told.Goals as goal

pub report-requires-clause-ends : goal.report-requires-clause-ends
report-requires-clause-ends c =
    ap length c.requires.ends ∙ ends_count c.args.job.now.plan ∙ ap (λ (plan : PlanData). length plan.sites) (sym c.plan.ensures.plan)
