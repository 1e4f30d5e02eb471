use Rattle.std.proofs.Common.{◌<◌, length, sym, subst, arith}
use Rattle.plan_rows.specs.Rows.{RowPlanData, places_in, row_places}
use Rattle.press_job.specs.Job.{JobData}
use Rattle.press_job.specs.Rows.{plate_frames}
use Rattle.press_job.proofs.FrameLemmas.{length-plate_frames}
use Rattle.press_feed.proofs.row_maker.RowMaker.is_wanted.Goals as goal

pub row_at-place-requires : goal.row_at-place-requires
row_at-place-requires c =
    let job = c.self.inside.job.now in
    let n = c.args.n in
    let some : n < length (plate_frames job.plan job.files) = subst {A = JobData} (λ j. n < length (plate_frames j.plan j.files)) (sym c.self.view_is) (omega (arith, c.if-n-total.false, c.total.ensures.total)) in
    let within : n < length (row_places job.plan) = omega (arith, some, length-plate_frames job.plan job.files) in
    subst {A = RowPlanData} (λ r. n < length (places_in r)) (sym c.rows-rows.ensures) within
