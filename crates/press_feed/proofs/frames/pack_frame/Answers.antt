use Rattle.std.proofs.Common.{rules, ◌≡◌, ◌<◌, true, length, ap, sym, subst, ◌∙◌, arith}
use Rattle.std.specs.Prelude.{Some, slice_get}
use Rattle.plan_rows.specs.Groups.{groups_of}
use Rattle.plan_rows.specs.Rows.{RowPlanData, places_in, row_places}
use Rattle.tif_packbits.specs.Frame.{frame_of}
use Rattle.press_job.specs.Rows.{plate_frames}
use Rattle.press_job.proofs.FrameLemmas.{length-plate_frames}
use Rattle.press_feed.specs.Band.{FrameData}
use Rattle.press_feed.proofs.FeedLemmas.{frame_is}
use Rattle.press_feed.proofs.frames.pack_frame.Goals as goal

pub row_at-place-requires : goal.row_at-place-requires
row_at-place-requires c =
    let job = c.args.job.now in
    let n = c.args.n in
    let wanted : c.args.is_wanted ≡ true = search rules in
    let some : n < length (plate_frames job.plan job.files) = c.requires.n wanted in
    let within : n < length (row_places job.plan) = omega (arith, some, length-plate_frames job.plan job.files) in
    subst {A = RowPlanData} (λ r. n < length (places_in r)) (sym c.rows.ensures) within

pub returns-then-join_row-clause-frame : goal.returns-then-join_row-clause-frame
returns-then-join_row-clause-frame c = λ _.
    let job = c.args.job.now in
    let n = c.args.n in
    let place = c.row_at-place.result in
    let group = c.group-group.result.now in
    let at : slice_get (row_places job.plan) n ≡ Some place = ap {A = RowPlanData} (λ r. slice_get (places_in r) n) (sym c.rows.ensures) ∙ c.row_at-place.ensures.place in
    let of : slice_get (groups_of job.plan) place.group ≡ Some group = ap {A = RowPlanData} (λ r. slice_get r.groups place.group) (sym c.rows-2.ensures) ∙ c.group-group.ensures in
    let bytes : c.pack.new.self.bytes ≡ frame_of c.join_row.new.bits = ap {A = FrameData} (λ f. f.bytes) c.pack.ensures.frame in
    frame_is job.plan job.files n place group c.join_row.new.bits c.pack.new.self.bytes at of (c.join_row.ensures.row c.if-join_row.true) bytes
