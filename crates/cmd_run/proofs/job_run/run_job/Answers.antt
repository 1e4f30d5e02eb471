use Rattle.std.proofs.Common.{◌≡◌, ℕ, length, map, subst, rules}
use Rattle.pr_rack.specs.Told.{RackTells, told}
use Rattle.site_agent.proofs.Results.{on_err}
use Rattle.ring_run.specs.Fits.{RunFits, RunPart, by_job}
use Rattle.cmd_run.proofs.job_run.run_job.Goals as goal

pub returns-in_err-outcome-clause-part : goal.returns-in_err-outcome-clause-part
returns-in_err-outcome-clause-part g c =
    let tell : g.row.R.Denot → RackTells = told g.R.Rack in
    let job = c.args.job.now in
    let readers : c.len.result ≡ length job.plan.sites = search rules in
    on_err c.from_residual.result _ (subst (λ (n : ℕ). RunPart (by_job job c.args.out.now n c.args.ring) (map tell c.args.racks.now) (map tell c.run_all.new.racks)) readers c.in_err-outcome.ensures.leaves.told.part)

pub returns-in_err-outcome-clause-counts : goal.returns-in_err-outcome-clause-counts
returns-in_err-outcome-clause-counts g c = c.in_err-outcome.ensures.leaves.told.counts

pub returns-clause-fits : goal.returns-clause-fits
returns-clause-fits g c =
    let tell : g.row.R.Denot → RackTells = told g.R.Rack in
    let job = c.args.job.now in
    let readers : c.len.result ≡ length job.plan.sites = search rules in
    subst (λ (n : ℕ). RunFits (by_job job c.args.out.now n c.args.ring) (map tell c.args.racks.now) (map tell c.run_all.new.racks) c.in_ok-outcome.outcome.sites.items) readers c.in_ok-outcome.ensures.leaves.told.fits

pub returns-clause-counts : goal.returns-clause-counts
returns-clause-counts g c = c.in_ok-outcome.ensures.leaves.told.counts
