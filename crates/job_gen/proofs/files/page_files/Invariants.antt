use Rattle.std.proofs.Common.{◌≡◌, map}
use Rattle.std.specs.List.{range_with_len}
use Rattle.job_gen.specs.Images.{page_entry}
use Rattle.job_gen.specs.Job.{shown}
use Rattle.job_gen.proofs.files.page_files.Given as goal

abbrev pub invariant-loop-k : goal.invariant-loop-k
invariant-loop-k l = shown l.files.items ≡ map (page_entry l.n) (range_with_len 1 l.k)
