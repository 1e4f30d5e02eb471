use Rattle.std.proofs.Common.{sym}
use Rattle.press_job.proofs.FrameLemmas.{length-plate_frames}
use Rattle.press_job.proofs.job.JobDeal.total.Goals as goal

pub returns : goal.returns
returns c =
    rw (← c.self.view_is, c.total.ensures.total, c.self.invariant.rows_are)
    (sym (length-plate_frames c.self.inside.plan c.self.inside.files.bytes))
