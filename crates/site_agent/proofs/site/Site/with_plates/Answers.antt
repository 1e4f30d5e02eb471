use Rattle.std.proofs.Common.{◌≡◌, ◌∙◌, length, ap, sym, subst}
use Rattle.plan_json.specs.Data.{PlanData}
use Rattle.plan_json.specs.Plan.{IsPlan}
use Rattle.plan_rows.specs.Rows.{places_in, row_places}
use Rattle.plan_rows.specs.Sides.{plate_sides}
use Rattle.tif_plate.specs.declared.sides.Sides.{Sides}
use Rattle.site_agent.specs.Job.{SiteJob}
use Rattle.site_agent.specs.Plan.{job_over}
use Rattle.site_agent.specs.Site.{AreFresh, IsCounting, job_with}
use Rattle.site_agent.proofs.Fresh.{counts-fresh}
use Rattle.site_agent.proofs.site.Site.with_plates.Goals as goal

pub invariant_of-result : goal.invariant_of-result
invariant_of-result c =
    let plan : PlanData = c.args.job_plan.now in
    let plates = c.args.plates.items in
    let is : IsPlan plan = c.plate_sides-sides.ensures.plan in
    let sides : c.plate_sides-sides.result ≡ plate_sides plan = c.plate_sides-sides.ensures.sides in
    let total : c.total.result ≡ length (row_places plan) = c.total.ensures.total ∙ ap (λ r. length (places_in r)) c.requires.rows in
    let job : job_with plates c.plate_sides-sides.result c.total.result ≡ job_over plan plates =
    ap (λ s. job_with plates s c.total.result) sides ∙ ap (λ t. job_with plates (plate_sides plan) t) total in
    λ open'. subst (λ (j : SiteJob). IsCounting j 0 0 c.in_ok-slots.slots.items) (sym job)
    (counts-fresh (job_over plan plates) c.in_ok-slots.slots.items (c.requires.job is)
    (subst (λ (s : Sides). AreFresh s c.in_ok-slots.slots.items) sides c.in_ok-slots.ensures))
