use Rattle.job_gen.specs.Images.{contone_pixel}
use Rattle.job_gen.proofs.ImageRows.{rows-step}
use Rattle.job_gen.proofs.images.put_contone_row.Goals as goal

pub loop-x-preserved : goal.loop-x-preserved
loop-x-preserved c =
    rows-step (contone_pixel c.args.n c.args.f c.args.y) c.loop-x.x c.args.rows.now.items c.loop-x.rows.items c.extend_from_slice.new.self.items
    c.pixel.result c.loop-x.invariant c.in_ok-extend_from_slice.ensures.items c.pixel.ensures
