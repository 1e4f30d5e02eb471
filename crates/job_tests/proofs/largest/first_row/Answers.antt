use Rattle.std.proofs.Common.{◌≡◌, ap, sym, subst, List, ℕ, length, drop, arith}
use Rattle.pr_base.specs.Row.{FitsNext}
use Rattle.press_feed.specs.Feed.{FeedData, rows_left}
use Rattle.press_job.specs.Rows.{plate_frames}
use Rattle.press_feed.proofs.FeedLemmas.{fits_at}
use Rattle.job_tests.proofs.largest.first_row.Goals as goal

pub draw-requires : goal.draw-requires
draw-requires c =
    let frames = plate_frames c.args.job.now.plan c.args.job.now.files in
    let long : length c.deref_mut.result.now ≡ c.row_len.result = omega (arith, c.in_ok-row.ensures.len, ap {A = List ℕ} length c.deref_mut.ensures.value, c.deref_mut.ensures.len) in
    subst {A = FeedData} (λ feed. FitsNext (rows_left feed) (length c.deref_mut.result.now)) (sym c.in_ok-feed.ensures)
    (subst {A = ℕ} (λ n. FitsNext (drop 0 frames) n) (sym long) (fits_at frames 0 c.row_len.result c.requires c.row_len.ensures.each))
