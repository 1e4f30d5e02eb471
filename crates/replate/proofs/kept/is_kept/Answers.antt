use Rattle.std.proofs.Common.{ap, subst, sym, ◌∙◌}
use Rattle.plan_json.specs.Data.{PlanData}
use Rattle.plan_json.specs.Plan.{IsPlan}
use Rattle.replate.specs.Recipe.{page_recipe}
use Rattle.replate.specs.Standing.{StandsFor}
use Rattle.replate.proofs.GroupLemmas.{stand_alike}
use Rattle.replate.proofs.kept.is_kept.Goals as goal

pub returns-in-Some-clause-each : goal.returns-in-Some-clause-each
returns-in-Some-clause-each c = λ its index of_site one.
    let before = c.args.jobs.now.before.now.plan in
    let files = c.args.jobs.now.before.now.files in
    let other = c.plan-2.ensures.plan in
    let found = subst (λ (p : PlanData). StandsFor p c.args.site c.args.group.now before c.in-Some._its c.in-Some.index) c.plan.ensures.plan
    (subst (λ (p : PlanData). StandsFor c.plan.result.now c.args.site c.args.group.now p c.in-Some._its c.in-Some.index) other c.in-Some.ensures.found) in
    let alike = stand_alike c.args.jobs.now.after.now.plan c.args.site c.args.group.now before its c.in-Some._its index c.in-Some.index (subst (λ (p : PlanData). IsPlan p) other c.counterpart.ensures.other) one.stands found in
    c.same_pages.ensures.1 (record {
      left = ap (λ page. page_recipe before files page) (sym alike.left) ∙ one.pages.left;
      right = ap (λ page. page_recipe before files page) (sym alike.right) ∙ one.pages.right;
    })
