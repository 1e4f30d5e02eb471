use Rattle.job_gen.specs.Job.{shown}
use Rattle.job_gen.proofs.JobFiles.{others_put}
use Rattle.job_gen.proofs.files.put_other_files.Goals as goal

pub returns : goal.returns
returns c =
    others_put c.args.n (shown c.args.files.now.items) (shown c.put_file.new.files.items) (shown c.put_file-2.new.files.items)
    (shown c.put_file-3.new.files.items) c.in_ok-other.other.items c.in_ok-line.line.items c.in_ok-mask.mask.items
    c.in_ok-put_file.ensures c.in_ok-other.ensures c.in_ok-put_file-2.ensures c.in_ok-line.ensures c.in_ok-put_file-3.ensures c.in_ok-mask.ensures
