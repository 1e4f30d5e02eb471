use Rattle.std.proofs.Common.{◌≡◌, ◌≤◌, ℕ, ◌||◌, ap, sym, subst, ◌∙◌, arith}
use Rattle.std.specs.Prelude.{Some}
use Rattle.pr_base.specs.Bits.{bit_at}
use Rattle.plan_json.specs.Data.{PlanData, plate_width}
use Rattle.plan_pages.specs.Plate.{is_marked_at}
use Rattle.press_feed.specs.Plates.{page_row}
use Rattle.press_feed.proofs.PlateLemmas.{row_is}
use Rattle.press_feed.proofs.frames.join_row.Goals as goal

pub join_sides-requires-clause-left : goal.join_sides-requires-clause-left
join_sides-requires-clause-left c = c.in-Some-rows_with.ensures.job c.args.job.now c.requires.rows

pub join_sides-requires-clause-right : goal.join_sides-requires-clause-right
join_sides-requires-clause-right c = c.in-Some-rows_with-2.ensures.job c.args.job.now c.requires.rows

pub returns-clause-row : goal.returns-clause-row
returns-clause-row c = λ _.
    let job = c.args.job.now in
    let group = c.args.group.now in
    let place = c.args.place in
    let old = c.join_sides.new.bits in
    let new = c.mark_row.new.bits in
    let seen : page_row job.plan place.y ≡ Some c.in-Some.y = ap {A = PlanData} (λ p. page_row p place.y) (sym c.plan.ensures.plan) ∙ sym c.page_row.ensures ∙ c.in-Some.is in
    row_is job.plan job.files group.left group.right place.ink place.y old new
    (c.mark_row.auto.bits ∙ c.join_sides.auto.bits ∙ c.requires.bits) (λ j. omega (arith, c.type_inv.bits j)) (c.join_sides.ensures place.y seen)
    (subst {A = PlanData} (λ p. (x : ℕ) → bit_at new x ≡ (bit_at old x || is_marked_at p place.ink x place.y)) c.plan-2.ensures.plan c.mark_row.ensures.marks)
    (subst {A = PlanData} (λ p. (x : ℕ) → plate_width p ≤ x → bit_at new x ≡ bit_at old x) c.plan-2.ensures.plan c.mark_row.ensures.padding)
