use Rattle.rack_tests.proofs.Numbered.{takes-first}
use Rattle.std.proofs.Common.{subst}
use Rattle.plan_json.specs.Data.{PlanData}
use Rattle.plan_json.specs.Plan.{IsPlan}
use Rattle.rack_tests.proofs.site.site_of.Goals as goal

pub returns-clause-takes : goal.returns-clause-takes
returns-clause-takes c =
    let is : IsPlan c.args.plan.now = subst (λ (p : PlanData). IsPlan p) c.plan.view_is c.plan.invariant in
    takes-first c.args.plan.now _ c.args.index c.new.result is c.requires.sides c.new.ensures
