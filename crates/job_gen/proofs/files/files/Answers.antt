use Rattle.job_gen.specs.Job.{shown}
use Rattle.job_gen.proofs.JobFiles.{files_are}
use Rattle.job_gen.proofs.files.files.Goals as goal

pub returns : goal.returns
returns c =
    files_are c.args.n c.page_count.result (shown c.in_ok-files.files.items) (shown c.put_other_files.new.files.items) c.page_count.ensures.count
    c.in_ok-files.ensures c.in_ok-put_other_files.ensures
