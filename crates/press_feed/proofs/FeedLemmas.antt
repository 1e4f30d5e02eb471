-- The frames of a feed: the frame of a row, and those that are left.
use Rattle.std.proofs.Common.{zero, suc, ◌≡◌, ℕ, ◌+◌, ◌<◌, List, [], ◌∷◌, length, drop, map, get_or, ap, sym, ◌∙◌, arith}
use Rattle.std.specs.Prelude.{Option, Some, slice_get}
use Rattle.std.specs.List.{All}
use Rattle.std.specs.Option.{option_map_or}
use Rattle.std.proofs.lemmas.List.{drop-drop, drop_more, length-drop, get_or-map, length-map}
use Rattle.std.proofs.lemmas.List.Elements.{All-get_or, All-head, All-tail}
use Rattle.std.proofs.lemmas.Option.{get_or_from_slice_get, slice_get-get_or, slice_get_within}
use Rattle.pr_base.specs.Row.{FitsNext, row_size}
use Rattle.tif_packbits.specs.Frame.{frame_of, frame_size}
use Rattle.plan_json.specs.Data.{PlanData, plate_width}
use Rattle.plan_json.specs.Plan.{IsPlan}
use Rattle.plan_rows.specs.declared.group.Group.{Group}
use Rattle.plan_rows.specs.declared.place.RowPlace.{RowPlace}
use Rattle.plan_rows.specs.Groups.{groups_of}
use Rattle.plan_rows.specs.Rows.{row_places, row_total, rows_of}
use Rattle.plan_rows.proofs.RowLemmas.{total_is, total-most}
use Rattle.plan_rows.proofs.Places.{plan_is}
use Rattle.press_job.specs.Rows.{plate_frames, plate_row, plate_rows, row_at_place}
use Rattle.press_job.proofs.FrameLemmas.{each-plate_frames, length-plate_frames}

-- ---- the frames that are left

-- a feed that fits its next row has a next row
pub next_within : (xs : List (List ℕ)) (n size : ℕ) → FitsNext (drop n xs) size → n < length xs
next_within [] zero size fits = absurd fits
next_within [] (suc n) size fits = absurd fits
next_within (x ∷ xs) zero size fits = omega arith
next_within (x ∷ xs) (suc n) size fits = (let rest = next_within xs n size fits in omega arith)

next_size : (xs : List (List ℕ)) (n size : ℕ) → FitsNext (drop n xs) size → size ≡ length (get_or xs n [])
next_size [] zero size fits = absurd fits
next_size [] (suc n) size fits = absurd fits
next_size (x ∷ xs) zero size fits = fits
next_size (x ∷ xs) (suc n) size fits = next_size xs n size fits

-- the buffer that fits it has the length of a frame of a plate row
pub frame_fits : (plan : PlanData) (files : List (List ℕ)) (n size : ℕ) → FitsNext (drop n (plate_frames plan files)) size → size ≡ frame_size (row_size (plate_width plan))
frame_fits plan files n size fits =
    next_size (plate_frames plan files) n size fits
    ∙ All-get_or (λ frame. length frame ≡ frame_size (row_size (plate_width plan))) (plate_frames plan files) n [] (next_within (plate_frames plan files) n size fits) (each-plate_frames plan files)

pub place_within : (plan : PlanData) (files : List (List ℕ)) (n size : ℕ) → FitsNext (drop n (plate_frames plan files)) size → n < length (row_places plan)
place_within plan files n size fits = (let within = next_within (plate_frames plan files) n size fits in omega (arith, length-plate_frames plan files))

-- the frame of a row is at its number
pub frame_is : (plan : PlanData) (files : List (List ℕ)) (n : ℕ) (place : RowPlace) (group : Group) (bits row : List ℕ) → slice_get (row_places plan) n ≡ Some place
    → slice_get (groups_of plan) place.group ≡ Some group → bits ≡ plate_row plan files group.left group.right place.ink place.y → row ≡ frame_of bits
    → slice_get (plate_frames plan files) n ≡ Some row
unfolding plate_rows
frame_is plan files n place group bits row there of bits_are row_is =
    let within : n < length (row_places plan) = slice_get_within (row_places plan) n place there in
    let rows : List (List ℕ) = map (row_at_place plan files (groups_of plan)) (row_places plan) in
    let rows_long = length-map (row_places plan) (row_at_place plan files (groups_of plan)) in
    let frames_long = length-map rows frame_of in
    let own : get_or (plate_frames plan files) n [] ≡ frame_of (plate_row plan files group.left group.right place.ink place.y) =
    get_or-map frame_of rows n [] [] (omega arith)
    ∙ ap frame_of (get_or-map (row_at_place plan files (groups_of plan)) (row_places plan) n place [] within
    ∙ ap {A = RowPlace} (row_at_place plan files (groups_of plan)) (get_or_from_slice_get (row_places plan) n place place there)
    ∙ ap {A = Option Group} (λ o. plate_row plan files (option_map_or (λ g. g.left) o 0) (option_map_or (λ g. g.right) o 0) place.ink place.y) of) in
    slice_get-get_or (plate_frames plan files) n [] (omega arith) ∙ ap {A = List ℕ} Some (own ∙ ap frame_of (sym bits_are) ∙ sym row_is)

-- a frame that is found precedes the rest
pub frame_first : (frames : List (List ℕ)) (n : ℕ) (frame : List ℕ) → slice_get frames n ≡ Some frame → drop n frames ≡ frame ∷ drop (n + 1) frames
frame_first frames n frame there =
    drop_more frames n [] (slice_get_within frames n frame there)
    ∙ ap (λ (first : List ℕ). first ∷ drop (n + 1) frames) (get_or_from_slice_get frames n frame [] there)

-- the frames behind the next one
pub frames_behind : (frames : List (List ℕ)) (n : ℕ) → drop (n + 1) frames ≡ drop 1 (drop n frames)
frames_behind frames n = sym (drop-drop 1 n frames)

-- while a frame is left, the next one is in the list
pub left_within : (plan : PlanData) (files : List (List ℕ)) (n : ℕ) → 0 < length (drop n (plate_frames plan files)) → n < length (row_places plan)
left_within plan files n some = omega (arith, some, length-drop n (plate_frames plan files), length-plate_frames plan files)

-- a row of bytes fits the next row of a list of such rows
pub fits_at : (xs : List (List ℕ)) (n size : ℕ) → n < length xs → All (λ row. length row ≡ size) xs → FitsNext (drop n xs) size
fits_at [] n size within each = absurd (omega arith)
fits_at (x ∷ xs) zero size within each = sym (All-head (λ row. length row ≡ size) x xs each)
fits_at (x ∷ xs) (suc n) size within each = fits_at xs n size (omega arith) (All-tail (λ row. length row ≡ size) x xs each)

-- the numbers of rows are small
pub next_small : (plan : PlanData) (n : ℕ) → IsPlan plan → n < length (row_places plan) → n < 2684313600
next_small plan n is within = omega (arith, total_is (rows_of plan), total-most (row_total (rows_of plan)) (rows_of plan) (plan_is plan is))
