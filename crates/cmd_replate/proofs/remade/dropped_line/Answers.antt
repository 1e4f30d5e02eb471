use Rattle.std.proofs.Common.{◌<◌, length, sym, subst}
use Rattle.plan_json.specs.Data.{PlanData}
use Rattle.plan_rows.specs.declared.group.Group.{Group}
use Rattle.replate.proofs.GroupLemmas.{group_is, group_of_plan}
use Rattle.cmd_replate.proofs.remade.dropped_line.Goals as goal

pub plate_path-requires-clause-section : goal.plate_path-requires-clause-section
plate_path-requires-clause-section c =
    let plan = c.args.before.now.plan in
    let group = group_is plan c.rows.result.now c.args.plate.group c.group-group.result.now c.rows.ensures c.group-group.ensures in
    subst (λ (p : PlanData). c.group-group.result.now.section < length p.sections) (sym c.plan-plan.ensures.plan)
    (subst (λ (g : Group). g.section < length plan.sections) (sym group)
    (group_of_plan plan c.args.plate.group c.plan-plan.ensures.valid c.requires.group).section)
