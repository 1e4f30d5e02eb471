use Rattle.std.proofs.Common.{◌≡◌, ◌*◌}
use Rattle.job_gen.specs.Images.{line_row, rows_of}
use Rattle.job_gen.proofs.images.line_rows.Given as goal

abbrev pub invariant-loop-y : goal.invariant-loop-y
invariant-loop-y l = l.rows.items ≡ rows_of (line_row (8 * l.bytes)) l.y
