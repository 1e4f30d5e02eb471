use Rattle.std.proofs.Common.{◌≡◌, ap, ◌∙◌}
use Rattle.pr_base.specs.Row.{row_size}
use Rattle.tif_packbits.specs.Frame.{frame_size}
use Rattle.plan_json.specs.Data.{plate_width}
use Rattle.plan_pages.specs.declared.shape.PlateShape.{PlateShape}
use Rattle.press_job.proofs.FrameLemmas.{each-plate_frames}
use Rattle.press_job.proofs.job.JobDeal.row_len.Goals as goal

pub returns-clause-each : goal.returns-clause-each
returns-clause-each c =
    let e : c.frame_len.result ≡ frame_size (row_size (plate_width c.self.inside.plan)) =
    c.frame_len.ensures ∙ ap frame_size (c.row_bytes.ensures ∙ ap (λ (s : PlateShape). row_size s.width) c.self.invariant.shape_is) in
    rw (← c.self.view_is, e) (each-plate_frames c.self.inside.plan c.self.inside.files.bytes)
