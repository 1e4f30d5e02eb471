use Rattle.std.proofs.Common.{◌≡◌, ◌++◌, replicate}
use Rattle.job_gen.proofs.images.put_line_row.Given as goal

abbrev pub invariant-loop-j : goal.invariant-loop-j
invariant-loop-j l = l.rows.items ≡ l.fn.rows.items ++ replicate l._j l.byte
