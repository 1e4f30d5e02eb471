use Rattle.std.proofs.Common.{◌≡◌}
use Rattle.job_gen.specs.Images.{contone_row, rows_of}
use Rattle.job_gen.proofs.images.contone_rows.Given as goal

abbrev pub invariant-loop-y : goal.invariant-loop-y
invariant-loop-y l = l.rows.items ≡ rows_of (contone_row l.n l.f l.width) l.y
