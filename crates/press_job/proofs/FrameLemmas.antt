-- The rows of a job and their frames: their number and the length of each.
use Rattle.std.proofs.Common.{◌≡◌, ℕ, List, length, map, get_or, refl, ap, ◌∙◌, arith}
use Rattle.std.specs.List.{All}
use Rattle.std.proofs.lemmas.List.{length-map}
use Rattle.std.proofs.lemmas.List.Elements.{All-map}
use Rattle.pr_base.specs.Row.{row_size}
use Rattle.pr_base.proofs.Bits.{length-packed_row}
use Rattle.tif_packbits.specs.Frame.{AreFrames, frame_of, frame_size, framed_row}
use Rattle.tif_packbits.proofs.Frames.{AreFrames-rows, length-frame_of}
use Rattle.plan_json.specs.Data.{PlanData, plate_width}
use Rattle.plan_json.specs.Plan.{IsPlan}
use Rattle.plan_rows.specs.declared.place.RowPlace.{RowPlace}
use Rattle.plan_rows.specs.Groups.{groups_of}
use Rattle.plan_rows.specs.Rows.{row_places}
use Rattle.press_job.specs.Rows.{plate_frames, plate_rows, row_at_place, plate_bit, left_of, right_of}

-- there is a frame for each row of the row plan
pub length-plate_frames : (plan : PlanData) (files : List (List ℕ))
    → length (plate_frames plan files) ≡ length (row_places plan)
unfolding plate_rows
length-plate_frames plan files =
    length-map (plate_rows plan files) frame_of
    ∙ length-map (row_places plan) (row_at_place plan files (groups_of plan))

-- each row has as many bytes as the plate's width requires
row-long : (plan : PlanData) (files : List (List ℕ)) (place : RowPlace)
    → length (row_at_place plan files (groups_of plan) place) ≡ row_size (plate_width plan)
row-long plan files place =
    let groups = groups_of plan in
    length-packed_row (plate_width plan)
    (λ x. plate_bit plan files (left_of groups place.group) (right_of groups place.group) place.ink x place.y)

pub rows-long : (plan : PlanData) (files : List (List ℕ))
    → All (λ row. length row ≡ row_size (plate_width plan)) (plate_rows plan files)
unfolding plate_rows
rows-long plan files =
    All-map (λ (row : List ℕ). length row ≡ row_size (plate_width plan))
    (row_at_place plan files (groups_of plan)) (row_places plan)
    (λ k d less. row-long plan files (get_or (row_places plan) k d))

-- each frame has the bytes of a frame of such a row
pub each-plate_frames : (plan : PlanData) (files : List (List ℕ))
    → All (λ frame. length frame ≡ frame_size (row_size (plate_width plan))) (plate_frames plan files)
each-plate_frames plan files =
    All-map (λ (frame : List ℕ). length frame ≡ frame_size (row_size (plate_width plan)))
    frame_of (plate_rows plan files)
    (λ k d less. length-frame_of (get_or (plate_rows plan files) k d)
    ∙ ap frame_size (rows-long plan files k d less))

-- they are the frames of the rows
pub are_frames : (plan : PlanData) (files : List (List ℕ)) → IsPlan plan
    → AreFrames (row_size (plate_width plan)) (plate_rows plan files) (plate_frames plan files)
are_frames plan files is = record {
  small = (let wide = is.width in omega (arith, wide));
  each = rows-long plan files;
  are = refl;
}

-- and contain these rows
pub rows_are : (plan : PlanData) (files : List (List ℕ)) → IsPlan plan
    → map framed_row (plate_frames plan files) ≡ plate_rows plan files
rows_are plan files is =
    AreFrames-rows (row_size (plate_width plan)) (plate_rows plan files) (plate_frames plan files)
    (are_frames plan files is)
