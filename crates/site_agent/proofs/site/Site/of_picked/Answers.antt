use Rattle.std.proofs.Common.{List, ◌∙◌, ap, length, sym, subst}
use Rattle.std.proofs.lemmas.List.{length-map}
use Rattle.plan_rows.specs.Plates.{site_plates}
use Rattle.site_agent.specs.declared.plate.SitePlate.{SitePlate}
use Rattle.site_agent.specs.Job.{IsJob}
use Rattle.site_agent.specs.Picked.{kept_where}
use Rattle.site_agent.specs.Plan.{job_over}
use Rattle.site_agent.specs.Plan.{plate_of}
use Rattle.site_agent.proofs.Parts.{picked_is}
use Rattle.site_agent.proofs.site.Site.of_picked.Goals as goal

pub picked_of-requires : goal.picked_of-requires
picked_of-requires c =
    let plan = c.args.job_plan.now in
    c.requires.wanted ∙ sym (ap length c.in_ok-plates.ensures ∙ length-map (site_plates plan c.args.site) (plate_of plan c.args.out.now c.args.site))

pub with_plates-requires-clause-job : goal.with_plates-requires-clause-job
with_plates-requires-clause-job c = λ is.
    let plan = c.args.job_plan.now in
    let plates = c.in_ok-plates-2.ensures ∙ ap (kept_where c.args.wanted.now) c.in_ok-plates.ensures in
    subst (λ (plates : List SitePlate). IsJob (job_over plan plates)) (sym plates) (picked_is plan c.args.out.now c.args.site c.args.wanted.now is)
