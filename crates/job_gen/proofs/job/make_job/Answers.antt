use Rattle.job_gen.proofs.JobImages.{images_pass}
use Rattle.job_gen.proofs.JobPaths.{paths_distinct}
use Rattle.job_gen.proofs.job.make_job.Goals as goal

pub returns-clause-paths : goal.returns-clause-paths
returns-clause-paths c = paths_distinct c.args.n

pub returns-clause-images : goal.returns-clause-images
returns-clause-images c = images_pass c.args.n
