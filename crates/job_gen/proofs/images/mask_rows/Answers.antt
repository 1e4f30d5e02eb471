use Rattle.std.proofs.Common.{◌*◌}
use Rattle.job_gen.specs.Images.{mask_row}
use Rattle.job_gen.proofs.ImageRows.{row_more}
use Rattle.job_gen.proofs.images.mask_rows.Goals as goal

pub loop-y-preserved : goal.loop-y-preserved
loop-y-preserved c =
    row_more (mask_row (16 * c.args.half)) c.loop-y.y c.loop-y.rows.items c.put_mask_row.new.rows.items c.loop-y.invariant c.in_ok-put_mask_row.ensures
