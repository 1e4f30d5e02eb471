use Rattle.std.proofs.Common.{◌≡◌, ◌∙◌, List, ap, subst}
use Rattle.plan_parts.specs.Data.{MarkData}
use Rattle.plan_json.specs.Data.{PlanData}
use Rattle.plan_json.specs.Plan.{IsPlan}
use Rattle.plan_pages.specs.Plate.{is_marked_at}
use Rattle.plan_pages.specs.Span.{AddsBits}
use Rattle.plan_pages.proofs.MarkLemmas.{marked_by, more_marks, all_marks, is_marked_at-past, same_past}
use Rattle.plan_pages.proofs.marks.mark_row.Goals as goal

pub loop-mark-preserved : goal.loop-mark-preserved
loop-mark-preserved c =
    more_marks c.args.ink c.args.y c.loop-mark.mark-index c.deref-mark-items.result.now _ c.args.bits.now c.loop-mark.bits _ c.loop-mark-test.true c.loop-mark.invariant c.add_mark.ensures

pub returns-clause-marks : goal.returns-clause-marks
unfolding is_marked_at
returns-clause-marks c =
    let here : c.deref-mark-items.result.now ≡ c.args.plan.now.marks = c.deref-mark-items.ensures.value ∙ ap {A = PlanData} (λ p. p.marks) c.plan.view_is in
    let P : List MarkData → Type 0 = λ marks. AddsBits (marked_by c.args.ink c.args.y marks) c.args.bits.now c.loop-mark.bits in
    (subst P here (all_marks c.args.ink c.args.y c.loop-mark.mark-index c.deref-mark-items.result.now c.args.bits.now c.loop-mark.bits c.loop-mark-test.false c.loop-mark.invariant)).each

pub returns-clause-padding : goal.returns-clause-padding
returns-clause-padding c =
    λ x past. same_past _ _ _
    (is_marked_at-past c.args.plan.now c.args.ink x c.args.y (subst {A = PlanData} (λ p. IsPlan p) c.plan.view_is c.plan.invariant) past)
    (returns-clause-marks c x)
