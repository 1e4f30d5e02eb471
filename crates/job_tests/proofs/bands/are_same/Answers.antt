-- Each iteration takes one more frame of both feeds.
use Rattle.std.proofs.Common.{◌≡◌, ℕ, ◌<◌, List, drop, length, ap, sym, subst, ◌∙◌, arith}
use Rattle.pr_base.specs.Row.{FitsNext}
use Rattle.press_feed.specs.Band.{frame_bytes}
use Rattle.press_feed.proofs.FeedLemmas.{fits_at, frames_behind}
use Rattle.press_job.specs.Rows.{plate_frames}
use Rattle.press_job.proofs.FrameLemmas.{each-plate_frames}
use Rattle.job_tests.proofs.bands.are_same.Goals as goal

pub next-requires : goal.next-requires
next-requires g c =
    let job = c.args.job.now in
    let frames = plate_frames job.plan job.files in
    let n = c.loop-n._n in
    let long : length c.loop-n.row ≡ frame_bytes job = omega (arith, c.requires.row) in
    let within : n < length frames = omega (arith, c.total-n-end.ensures) in
    subst {A = List (List ℕ)} (λ rows. FitsNext rows (length c.loop-n.row)) (sym c.loop-n.invariant.one)
    (subst {A = ℕ} (FitsNext (drop n frames)) (sym long) (fits_at frames n (frame_bytes job) within (each-plate_frames job.plan job.files)))

pub loop-n-preserved : goal.loop-n-preserved
loop-n-preserved g c =
    let frames = plate_frames c.args.job.now.plan c.args.job.now.files in
    let n = c.loop-n._n in
    record {
      one = ap {A = List (List ℕ)} (drop 1) (sym c.next.ensures ∙ c.loop-n.invariant.one) ∙ sym (frames_behind frames n);
      wide = ap {A = List (List ℕ)} (drop 1) (sym c.next-in-loop-n.ensures ∙ c.make_band.ensures ∙ c.loop-n.invariant.wide) ∙ sym (frames_behind frames n);
    }
