use Rattle.std.proofs.Common.{◌<◌, length, subst, arith}
use Rattle.press_feed.proofs.FeedLemmas.{next_small}
use Rattle.press_job.specs.Job.{JobData}
use Rattle.press_job.specs.Rows.{plate_frames}
use Rattle.press_job.proofs.FrameLemmas.{length-plate_frames}
use Rattle.press_feed.proofs.feed.FeedBandFeed.make_band.Goals as goal

pub make-requires-after_bounds : goal.make-requires-after_bounds
make-requires-after_bounds g c κs within =
    let job = c.self.inside.job.now in
    let n = c.self.inside.next in
    let below : n < length (plate_frames job.plan job.files) =
    subst {A = JobData} (λ j. n < length (plate_frames j.plan j.files)) c.self.invariant.maker_is (omega (arith, c.if-self-total.true, c.total.ensures.total)) in
    let small = next_small job.plan n c.self.invariant.plan_is (omega (arith, below, length-plate_frames job.plan job.files)) in
    omega (arith, small)
