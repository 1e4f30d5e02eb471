use Rattle.std.proofs.Common.{ap, sym, ◌∙◌}
use Rattle.press_feed.specs.Band.{frame_bytes}
use Rattle.press_job.specs.Job.{JobData}
use Rattle.press_feed.proofs.share.Share.open.Goals as goal

pub invariant_of-result : goal.invariant_of-result
invariant_of-result c = record {
  each = λ k d less. c.in_ok-frames.ensures.long k d less ∙ c.row_len.ensures.size ∙ ap {A = JobData} frame_bytes (sym c.in_ok-maker.ensures);
}
