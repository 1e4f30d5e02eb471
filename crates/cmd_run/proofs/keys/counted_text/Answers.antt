use Rattle.std.proofs.Common.{◌<◌, ◌∙◌, length, All, ap, sym, subst}
use Rattle.plan_json.specs.Data.{PlanData}
use Rattle.plan_rows.specs.declared.group.Group.{Group}
use Rattle.plan_rows.specs.Rows.{RowPlanData}
use Rattle.cmd_run.proofs.Keying.{sections_within}
use Rattle.cmd_run.proofs.keys.counted_text.Goals as goal

pub put_keys-requires-clause-sections : goal.put_keys-requires-clause-sections
put_keys-requires-clause-sections c =
    let all = c.groups.ensures.groups ∙ ap {A = RowPlanData} (λ rows. rows.groups) c.rows-rows.ensures in
    subst (λ (p : PlanData). All (λ (group : Group). group.section < length p.sections) c.groups.result.now) (sym c.plan-plan.ensures.plan)
    (sections_within c.args.job.now.plan c.groups.result.now c.plan-plan.ensures.valid all)
