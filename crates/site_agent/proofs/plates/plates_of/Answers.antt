use Rattle.std.proofs.Common.{◌≡◌, ◌∙◌, ◌^◌, ◌<◌, List, length, get_or, ap, sym, subst, arith}
use Rattle.plan_rows.specs.declared.group.Group.{Group}
use Rattle.plan_rows.specs.Groups.{groups_of}
use Rattle.site_agent.proofs.Fresh.{groups-in}
use Rattle.site_agent.proofs.Making.{first-few, group-step}
use Rattle.site_agent.proofs.plates.plates_of.Goals as goal

pub add_plates-requires-clause-section : goal.add_plates-requires-clause-section
add_plates-requires-clause-section c =
    let are : c.groups-groups.result.now ≡ groups_of c.args.plan.now = c.groups-groups.ensures.groups ∙ ap (λ r. r.groups) c.requires.rows in
    let within : c.loop-group.group-index < length c.groups-groups.result.now = omega arith in
    subst (λ (groups : List Group). c.loop-group.group-index < length groups → (d : Group) → (get_or groups c.loop-group.group-index d).section < length c.args.plan.now.sections) (sym are)
    (λ less d. groups-in c.args.plan.now c.loop-group.group-index d less) within _

pub add_plates-requires-clause-first : goal.add_plates-requires-clause-first
add_plates-requires-clause-first c =
    let are : c.groups-groups.result.now ≡ groups_of c.args.plan.now = c.groups-groups.ensures.groups ∙ ap (λ r. r.groups) c.requires.rows in
    let within : c.loop-group.group-index < length c.groups-groups.result.now = omega arith in
    subst (λ (groups : List Group). c.loop-group.group-index < length groups → (d : Group) → (get_or groups c.loop-group.group-index d).first < 2 ^ 32) (sym are)
    (λ less d. first-few c.args.plan.now c.loop-group.group-index d c.requires.plan less) within _

pub loop-group-preserved : goal.loop-group-preserved
loop-group-preserved c =
    group-step c.args.plan.now c.args.out.now c.args.site c.groups-groups.result.now c.loop-group.group-index _ c.loop-group.plates.items c.add_plates.new.plates.items (omega arith) c.loop-group.invariant c.in_ok-add_plates.ensures
