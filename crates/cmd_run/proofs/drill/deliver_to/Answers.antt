use Rattle.cmd_run.proofs.Drilled.{idle, job_ends, job_run}
use Rattle.cmd_run.proofs.drill.deliver_to.Goals as goal

pub run_job-requires-clause-idle : goal.run_job-requires-clause-idle
run_job-requires-clause-idle g c = λ κs within. idle c.args.racks.now _ c.requires.slots

pub returns-clause-ends : goal.returns-clause-ends
returns-clause-ends g c =
    job_ends c.args.job.now c.args.drill.ring c.args.racks.now c.run_job.new.racks c.in_ok-outcome.outcome.sites.items c.requires.count
    c.run_job.auto.racks c.in_ok-outcome.ensures.fits

pub returns-clause-racks : goal.returns-clause-racks
returns-clause-racks g c =
    job_run c.args.job.now c.args.drill.ring c.args.racks.now c.run_job.new.racks c.in_ok-outcome.outcome.sites.items c.requires.count
    c.run_job.auto.racks c.in_ok-outcome.ensures.fits c.requires.files c.requires.taken
