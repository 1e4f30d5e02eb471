use Rattle.std.proofs.Common.{sym, subst}
use Rattle.replate.specs.Standing.{IsOfPlan}
use Rattle.replate.proofs.GroupLemmas.{group_is, group_of_plan}
use Rattle.replate.proofs.standing.group_with.Goals as goal

pub returns-clause-group : goal.returns-clause-group
returns-clause-group c = group_is c.args.job.now.plan c.rows.result.now c.args.index c.group.result.now c.rows.ensures c.group.ensures

pub returns-clause-of_plan : goal.returns-clause-of_plan
returns-clause-of_plan c =
    let plan = c.args.job.now.plan in
    subst (IsOfPlan plan) (sym (group_is plan c.rows.result.now c.args.index c.group.result.now c.rows.ensures c.group.ensures))
    (group_of_plan plan c.args.index c.plan-plan.ensures.valid c.requires)
