use Rattle.std.proofs.Common.{◌≡◌, ap, sym, subst, ◌∙◌}
use Rattle.std.specs.Prelude.{not}
use Rattle.std.proofs.lemmas.Bool.{both_ways}
use Rattle.plan_json.specs.Data.{PlanData}
use Rattle.plan_json.specs.Plan.{IsPlan}
use Rattle.plan_rows.specs.Inks.{has_ink}
use Rattle.replate.proofs.PlateLemmas.{absent_edition, absent_place, present}
use Rattle.replate.proofs.dropped.is_dropped.Goals as goal

pub returns-then-not-same_edition : goal.returns-then-not-same_edition
returns-then-not-same_edition c =
    let old = c.args.before.now.plan in
    let new = c.args.after.now.plan in
    let old_is : IsPlan old = subst {A = PlanData} IsPlan c.plan.ensures.plan c.same_edition.ensures.before in
    let new_is : IsPlan new = subst {A = PlanData} IsPlan c.plan-2.ensures.plan c.same_edition.ensures.after in
    ap not (sym (absent_edition old new c.args.plate old_is new_is c.requires.site c.requires.group
    (λ same. both_ways c.same_edition.result c.if-not-same_edition.true
    (c.same_edition.ensures.same.1 (ap (λ (p : PlanData). p.edition) c.plan.ensures.plan ∙ same ∙ sym (ap (λ (p : PlanData). p.edition) c.plan-2.ensures.plan))))))

pub returns-in-Some : goal.returns-in-Some
returns-in-Some c =
    let old = c.args.before.now.plan in
    let new = c.args.after.now.plan in
    let old_is : IsPlan old = subst {A = PlanData} IsPlan c.plan.ensures.plan c.same_edition.ensures.before in
    let new_is : IsPlan new = subst {A = PlanData} IsPlan c.plan-2.ensures.plan c.same_edition.ensures.after in
    let same : old.edition ≡ new.edition =
    sym (ap (λ (p : PlanData). p.edition) c.plan.ensures.plan) ∙ c.same_edition.ensures.same.0 c.if-not-same_edition.false ∙ ap (λ (p : PlanData). p.edition) c.plan-2.ensures.plan in
    ap not (c.has_ink.ensures ∙ ap (λ group. has_ink group c.args.plate.ink) c.group_with.ensures.group
    ∙ sym (present old new c.args.plate old_is new_is c.requires.site c.requires.group
    c.in-Some._its c.in-Some.index same (c.requires.found (c.in-Some._its, c.in-Some.index) c.in-Some.is)))

pub returns-in-None : goal.returns-in-None
returns-in-None c =
    let old_is : IsPlan c.args.before.now.plan = subst {A = PlanData} IsPlan c.plan.ensures.plan c.same_edition.ensures.before in
    let new_is : IsPlan c.args.after.now.plan = subst {A = PlanData} IsPlan c.plan-2.ensures.plan c.same_edition.ensures.after in
    ap not (sym (absent_place c.args.before.now.plan c.args.after.now.plan c.args.plate old_is new_is c.requires.site c.requires.group
    (c.requires.none c.in-None.is)))

pub group_with-requires : goal.group_with-requires
group_with-requires c = (c.requires.found (c.in-Some._its, c.in-Some.index) c.in-Some.is).within
