use Rattle.std.proofs.Common.{◌*◌}
use Rattle.job_gen.specs.Images.{line_row}
use Rattle.job_gen.proofs.ImageRows.{row_more}
use Rattle.job_gen.proofs.images.line_rows.Goals as goal

pub loop-y-preserved : goal.loop-y-preserved
loop-y-preserved c =
    row_more (line_row (8 * c.args.bytes)) c.loop-y.y c.loop-y.rows.items c.put_line_row.new.rows.items c.loop-y.invariant c.in_ok-put_line_row.ensures
