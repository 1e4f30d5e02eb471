use Rattle.std.proofs.Common.{ap, sym, subst, ◌∙◌}
use Rattle.press_feed.specs.Band.{BandData, Covers, IsFrameAt, frame_bytes}
use Rattle.press_job.specs.Job.{JobData}
use Rattle.press_feed.proofs.BandLemmas.{band_frame, band_share}
use Rattle.press_feed.proofs.band.Band.frame.Goals as goal

pub returns-clause-frame : goal.returns-clause-frame
returns-clause-frame c =
    let b = c.self.inside in
    let n = c.args.n in
    let within = subst {A = BandData} (λ d. Covers d n) (sym c.self.view_is) c.requires in
    subst {A = BandData} (λ d. IsFrameAt d.job n c.frame.result.now) c.self.view_is
    (band_frame b.job.now b.each b.first b.end n b.shares.items c.index-share.result.now c.frame.result.now c.self.invariant within.0 within.1 c.index-share.ensures c.frame.ensures.frame)

pub returns-clause-len : goal.returns-clause-len
returns-clause-len c =
    let b = c.self.inside in
    let within = subst {A = BandData} (λ d. Covers d c.args.n) (sym c.self.view_is) c.requires in
    c.frame.ensures.len
    ∙ ap {A = JobData} frame_bytes (band_share b.job.now b.each b.first b.end c.args.n b.shares.items c.index-share.result.now c.self.invariant within.0 within.1 c.index-share.ensures).job_is
    ∙ ap {A = BandData} (λ d. frame_bytes d.job) c.self.view_is
