use Rattle.std.proofs.Common.{◌≡◌, ◌<◌, ◌+◌, drop, length, sym, subst, arith}
use Rattle.press_feed.specs.Feed.{FeedData, rows_left}
use Rattle.press_job.specs.Rows.{plate_frames}
use Rattle.press_feed.proofs.FeedLemmas.{frames_behind, left_within, next_small}
use Rattle.press_feed.proofs.feed.FeedPassingFeed.pass.Goals as goal

pub overflow_add-self : goal.overflow_add-self
overflow_add-self c =
    let job = c.self.inside.job.now in
    let some = subst {A = FeedData} (λ f. 0 < length (rows_left f)) (sym c.self.view_is) c.requires in
    let small = next_small job.plan c.self.inside.next c.self.invariant.plan_is (left_within job.plan job.files c.self.inside.next some) in
    omega (arith, small)

pub returns : goal.returns
returns c =
    let job = c.self.inside.job.now in
    let n = c.self.inside.next in
    subst {A = FeedData} (λ f. drop (n + 1) (plate_frames job.plan job.files) ≡ drop 1 (rows_left f)) c.self.view_is (frames_behind (plate_frames job.plan job.files) n)
