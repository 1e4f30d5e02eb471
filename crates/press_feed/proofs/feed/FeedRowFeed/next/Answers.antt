use Rattle.std.proofs.Common.{◌≡◌, ◌<◌, ◌+◌, ◌∷◌, drop, length, ap, sym, subst, ◌∙◌, arith}
use Rattle.std.specs.Prelude.{Some, slice_get}
use Rattle.pr_base.specs.Row.{FitsNext}
use Rattle.press_feed.specs.Band.{frame_bytes}
use Rattle.press_feed.specs.Feed.{FeedData, rows_left}
use Rattle.press_job.specs.Job.{JobData}
use Rattle.press_job.specs.Rows.{plate_frames}
use Rattle.press_job.proofs.FrameLemmas.{length-plate_frames}
use Rattle.press_feed.proofs.FeedLemmas.{frame_first, frame_fits, next_small, place_within}
use Rattle.press_feed.proofs.feed.FeedRowFeed.next.Goals as goal

pub make_row-requires-clause-n : goal.make_row-requires-clause-n
make_row-requires-clause-n c =
    let job = c.self.inside.job.now in
    let n = c.self.inside.next in
    let fits = subst {A = FeedData} (λ f. FitsNext (rows_left f) (length c.args.row.now)) (sym c.self.view_is) c.requires in
    let place = place_within job.plan job.files n (length c.args.row.now) fits in
    subst {A = JobData} (λ j. n < length (plate_frames j.plan j.files)) (sym c.self.invariant.maker_is) (omega (arith, place, length-plate_frames job.plan job.files))

pub make_row-requires-clause-row : goal.make_row-requires-clause-row
make_row-requires-clause-row c =
    let job = c.self.inside.job.now in
    let fits = subst {A = FeedData} (λ f. FitsNext (rows_left f) (length c.args.row.now)) (sym c.self.view_is) c.requires in
    frame_fits job.plan job.files c.self.inside.next (length c.args.row.now) fits ∙ ap {A = JobData} frame_bytes (sym c.self.invariant.maker_is)

pub overflow_add-self : goal.overflow_add-self
overflow_add-self c =
    let job = c.self.inside.job.now in
    let fits = subst {A = FeedData} (λ f. FitsNext (rows_left f) (length c.args.row.now)) (sym c.self.view_is) c.requires in
    let small = next_small job.plan c.self.inside.next c.self.invariant.plan_is (place_within job.plan job.files c.self.inside.next (length c.args.row.now) fits) in
    omega (arith, small)

pub returns : goal.returns
returns c =
    let job = c.self.inside.job.now in
    let n = c.self.inside.next in
    let frames = plate_frames job.plan job.files in
    let there : slice_get frames n ≡ Some c.make_row.new.row =
    subst {A = JobData} (λ j. slice_get (plate_frames j.plan j.files) n ≡ Some c.make_row.new.row) c.self.invariant.maker_is c.make_row.ensures.frame in
    subst {A = FeedData} (λ f. rows_left f ≡ c.make_row.new.row ∷ drop (n + 1) frames) c.self.view_is (frame_first frames n c.make_row.new.row there)
