use Rattle.std.proofs.Common.{subst, ◌∙◌}
use Rattle.plan_json.specs.Data.{PlanData}
use Rattle.page_layers.specs.Inks.{HasWidth}
use Rattle.press_feed.proofs.SideLemmas.{IsSide-open}
use Rattle.press_feed.proofs.side_pages.SidePages.open.Goals as goal

pub invariant_of-result : goal.invariant_of-result
invariant_of-result c =
    IsSide-open c.args.job.now c.in_ok-page_rows.page_rows c.in_ok-tones.tones c.in_ok-row.row c.plan-plan.ensures.valid c.in_ok-page_rows.ensures.page c.in_ok-page_rows.ensures.room (c.in_ok-tones.ensures ∙ c.plan-plan.ensures.plan)
    (subst {A = PlanData} (λ p. HasWidth c.in_ok-row.row p.page_width) c.plan-plan.ensures.plan c.in_ok-row.ensures)
