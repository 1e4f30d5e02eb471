use Rattle.std.proofs.Common.{List, sym, subst}
use Rattle.site_agent.specs.declared.plate.SitePlate.{SitePlate}
use Rattle.site_agent.specs.Job.{IsJob}
use Rattle.site_agent.specs.Plan.{job_over}
use Rattle.site_agent.proofs.Jobs.{job_is}
use Rattle.site_agent.proofs.site.Site.new.Goals as goal

pub with_plates-requires-clause-job : goal.with_plates-requires-clause-job
with_plates-requires-clause-job c = λ is.
    let plan = c.args.job_plan.now in
    subst (λ (plates : List SitePlate). IsJob (job_over plan plates)) (sym c.in_ok-plates.ensures) (job_is plan c.args.out.now c.args.site is)
