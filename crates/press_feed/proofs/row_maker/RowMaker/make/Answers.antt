use Rattle.std.proofs.Common.{◌≡◌, ◌<◌, length, ap, sym, subst, ◌∙◌, arith}
use Rattle.std.specs.Prelude.{Some, slice_get}
use Rattle.std.proofs.lemmas.List.{with_items_is}
use Rattle.plan_rows.specs.Groups.{groups_of}
use Rattle.plan_rows.specs.Rows.{RowPlanData, places_in, row_places}
use Rattle.plan_rows.proofs.InkLemmas.{place_prints}
use Rattle.tif_packbits.specs.Frame.{frame_of}
use Rattle.press_job.specs.Job.{JobData}
use Rattle.press_job.specs.Rows.{plate_frames}
use Rattle.press_job.proofs.FrameLemmas.{length-plate_frames}
use Rattle.press_feed.proofs.FeedLemmas.{frame_is}
use Rattle.press_feed.proofs.row_maker.RowMaker.make.Goals as goal

pub row_at-place-requires : goal.row_at-place-requires
row_at-place-requires c =
    let job = c.self.inside.job.now in
    let n = c.args.n in
    let some : n < length (plate_frames job.plan job.files) = subst {A = JobData} (λ j. n < length (plate_frames j.plan j.files)) (sym c.self.view_is) c.requires.n in
    let within : n < length (row_places job.plan) = omega (arith, some, length-plate_frames job.plan job.files) in
    subst {A = RowPlanData} (λ r. n < length (places_in r)) (sym c.rows-rows.ensures) within

-- the ink is one of the group's
pub draw_row-requires-clause-ink : goal.draw_row-requires-clause-ink
draw_row-requires-clause-ink c =
    let job = c.self.inside.job.now in
    let place = c.row_at-place.result in
    place_prints job.plan c.args.n place (ap {A = RowPlanData} (λ r. slice_get (places_in r) c.args.n) (sym c.rows-rows.ensures) ∙ c.row_at-place.ensures.place) c.group-group.result.now
    (ap {A = RowPlanData} (λ r. slice_get r.groups place.group) (sym c.rows-rows.ensures) ∙ c.group-group.ensures)

pub returns-clause-frame : goal.returns-clause-frame
returns-clause-frame c =
    let job = c.self.inside.job.now in
    let n = c.args.n in
    let place = c.row_at-place.result in
    let group = c.group-group.result.now in
    let at : slice_get (row_places job.plan) n ≡ Some place = ap {A = RowPlanData} (λ r. slice_get (places_in r) n) (sym c.rows-rows.ensures) ∙ c.row_at-place.ensures.place in
    let of : slice_get (groups_of job.plan) place.group ≡ Some group = ap {A = RowPlanData} (λ r. slice_get r.groups place.group) (sym c.rows-rows.ensures) ∙ c.group-group.ensures in
    let bits_are = c.deref.ensures.value ∙ with_items_is c.self.inside.bits c.draw_row.new.bits (omega arith) in
    subst {A = JobData} (λ j. slice_get (plate_frames j.plan j.files) n ≡ Some c.frame_row.new.into) c.self.view_is
    (frame_is job.plan job.files n place group c.draw_row.new.bits c.frame_row.new.into at of c.draw_row.ensures.row (c.frame_row.ensures ∙ ap frame_of bits_are))
