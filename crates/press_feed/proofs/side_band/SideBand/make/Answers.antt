use Rattle.std.proofs.Common.{◌<◌, length, sym, subst, arith}
use Rattle.plan_rows.specs.Rows.{RowPlanData, places_in, row_places}
use Rattle.press_job.specs.Rows.{plate_frames}
use Rattle.press_job.proofs.FrameLemmas.{length-plate_frames}
use Rattle.press_feed.specs.SideBand.{SideBandData}
use Rattle.press_feed.proofs.SideBandLemmas.{small_number}
use Rattle.press_feed.proofs.side_band.SideBand.make.Goals as goal

pub row_at-place-requires : goal.row_at-place-requires
row_at-place-requires g c =
    let job = c.self.inside.job.now in
    let n = c.args.n in
    let some : n < length (plate_frames job.plan job.files) = subst {A = SideBandData} (λ v. n < length (plate_frames v.job.plan v.job.files)) (sym c.self.view_is) c.requires in
    let below : n < length (row_places job.plan) = omega (arith, some, length-plate_frames job.plan job.files) in
    subst {A = RowPlanData} (λ r. n < length (places_in r)) (sym c.rows.ensures) below

pub step-requires-clause-first : goal.step-requires-clause-first
step-requires-clause-first g c κs within =
    let n = c.args.n in
    small_number c.self.inside.job.now n c.plan.ensures.valid (subst {A = SideBandData} (λ v. n < length (plate_frames v.job.plan v.job.files)) (sym c.self.view_is) c.requires)

pub step-requires-2-clause-first : goal.step-requires-2-clause-first
step-requires-2-clause-first g c κs within =
    let n = c.args.n in
    small_number c.self.inside.job.now n c.plan.ensures.valid (subst {A = SideBandData} (λ v. n < length (plate_frames v.job.plan v.job.files)) (sym c.self.view_is) c.requires)
