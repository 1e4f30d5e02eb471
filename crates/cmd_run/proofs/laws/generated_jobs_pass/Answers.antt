use Rattle.job_gen.proofs.JobImages.{images_pass}
use Rattle.cmd_run.proofs.DrillVerdict.{job_passes}
use Rattle.cmd_run.proofs.laws.generated_jobs_pass.Goals as goal

pub returns : goal.returns
returns c = λ n. job_passes n (images_pass n)
