use Rattle.std.proofs.Common.{◌∙◌}
use Rattle.job_gen.specs.Job.{shown}
use Rattle.job_gen.proofs.JobFiles.{page_more}
use Rattle.job_gen.proofs.files.page_files.Goals as goal

pub loop-k-preserved : goal.loop-k-preserved
loop-k-preserved c =
    page_more c.args.n c.loop-k.k (shown c.loop-k.files.items) (shown c.put_file.new.files.items) c.as_str.result.now c.in_ok-image.image.items
    c.loop-k.invariant c.in_ok-put_file.ensures (c.as_str.ensures.value ∙ c.in_ok-name.ensures) c.in_ok-image.ensures
