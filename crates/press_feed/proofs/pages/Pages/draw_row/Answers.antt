use Rattle.std.proofs.Common.{◌≡◌, ◌≤◌, ℕ, ◌||◌, subst, ◌∙◌, arith}
use Rattle.pr_base.specs.Bits.{bit_at}
use Rattle.plan_json.specs.Data.{PlanData, plate_width}
use Rattle.plan_pages.specs.Plate.{is_marked_at}
use Rattle.press_feed.proofs.PlateLemmas.{row_is}
use Rattle.press_feed.proofs.pages.Pages.draw_row.Goals as goal

pub returns-clause-row : goal.returns-clause-row
returns-clause-row c =
    let job = c.args.job.now in
    let group = c.args.group.now in
    let place = c.args.place in
    let old = c.draw.new.bits in
    let new = c.mark_row.new.bits in
    row_is job.plan job.files group.left group.right place.ink place.y old new
    (c.mark_row.auto.bits ∙ c.draw.auto.bits ∙ c.requires.row) (λ j. omega (arith, c.type_inv.bits j)) c.draw.ensures.pages
    (subst {A = PlanData} (λ p. (x : ℕ) → bit_at new x ≡ (bit_at old x || is_marked_at p place.ink x place.y)) c.plan.ensures.plan c.mark_row.ensures.marks)
    (subst {A = PlanData} (λ p. (x : ℕ) → plate_width p ≤ x → bit_at new x ≡ bit_at old x) c.plan.ensures.plan c.mark_row.ensures.padding)
