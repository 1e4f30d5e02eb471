use Rattle.job_gen.specs.Images.{contone_row}
use Rattle.job_gen.proofs.ImageRows.{row_more}
use Rattle.job_gen.proofs.images.contone_rows.Goals as goal

pub loop-y-preserved : goal.loop-y-preserved
loop-y-preserved c =
    row_more (contone_row c.args.n c.args.f c.args.width) c.loop-y.y c.loop-y.rows.items c.put_contone_row.new.rows.items c.loop-y.invariant c.in_ok-put_contone_row.ensures
