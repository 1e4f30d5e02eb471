use Rattle.std.proofs.Common.{◌≡◌, ◌*◌}
use Rattle.job_gen.specs.Images.{mask_row, rows_of}
use Rattle.job_gen.proofs.images.mask_rows.Given as goal

abbrev pub invariant-loop-y : goal.invariant-loop-y
invariant-loop-y l = l.rows.items ≡ rows_of (mask_row (16 * l.half)) l.y
