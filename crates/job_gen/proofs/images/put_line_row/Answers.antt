use Rattle.std.proofs.Common.{arith}
use Rattle.job_gen.proofs.ImageRows.{line_row_end}
use Rattle.job_gen.proofs.images.put_line_row.Goals as goal

pub returns : goal.returns
returns c = line_row_end c.args.bytes c.args.y c.loop-j._j _ _ _ (omega arith) (omega arith) c.loop-j.invariant
