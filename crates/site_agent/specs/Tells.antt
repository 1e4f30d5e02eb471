-- The effect of the calls for one row on what contracts see of a rack.
use Rattle.std.specs.Prelude.{◌≡◌, ℕ, ◌+◌, ◌/◌, ◌==◌, true, false, if◌then◌else◌, List, [], Some, None}
use Rattle.std.specs.Prelude.{length, slice_index_or, slice_set}
use Rattle.ring_lanes.specs.Held.{HeldRow}
use Rattle.ring_lanes.specs.declared.source.Source.{Source}
use Rattle.tif_packbits.specs.Frame.{packed_in}
use Rattle.tif_plate.specs.Plate.{rows_each}
use Rattle.tif_plate.specs.Tail.{front_bytes, tail_bytes, tail_offset}
use Rattle.tif_plate.specs.declared.sides.Sides.{Sides}
use Rattle.plate_bytes.specs.Strips.{counted}
use Rattle.pr_rack.specs.Rack.{with_plate, with_more, with_row, finished_with}
use Rattle.pr_rack.specs.Told.{Tells}
use Rattle.site_agent.specs.declared.plate_row.PlateRow.{PlateRow}
use Rattle.site_agent.specs.declared.plate.SitePlate.{SitePlate}
use Rattle.site_agent.specs.Job.{SiteJob, sides_of}

-- the number of finished plates after row y of one
abbrev pub finished_after : ℕ → ℕ → ℕ → ℕ
finished_after height y finished = if y + 1 == height then finished + 1 else finished

-- a plate is begun in its slot
abbrev pub with_begin : SitePlate → Tells → Tells
with_begin plate old = record old {
  working = with_plate plate.slot (Some (plate.path, front_bytes)) old.working;
  begun = slice_set old.begun plate.slot true;
}

-- a row was taken for the plate in a slot
abbrev pub with_taken : ℕ → ℕ → List ℕ → Source → Tells → Tells
with_taken slot number frame source old = record old {
  working = with_more slot (packed_in frame) old.working;
  taken = with_row number source old.taken;
}

-- the plate in a slot is finished with this tail and this offset of its directory
abbrev pub with_closed : ℕ → List ℕ → ℕ → Tells → Tells
with_closed slot tail place old = record old {
  finished = finished_with old.working slot tail place old.finished;
  working = with_plate slot None old.working;
  begun = slice_set old.begun slot false;
}

-- the plate in a slot, whose strips have these byte counts, is finished
abbrev pub with_finish : Sides → ℕ → List ℕ → Tells → Tells
with_finish sides slot counts old =
    with_closed slot (tail_bytes sides.width sides.height sides.dpi counts) (tail_offset counts) old

-- the plate of row y is begun
abbrev pub begun_at : ℕ → SitePlate → Tells → Tells
begun_at y plate old = if y == 0 then with_begin plate old else old

-- a plate with its row y is finished if this is its last row
abbrev pub finished_at : Sides → ℕ → SitePlate → List ℕ → Tells → Tells
finished_at sides y plate counts old =
    if y + 1 == sides.height then with_finish sides plate.slot counts old else old

-- row y of a plate, with this number and frame, was processed; `counts` includes this row
abbrev pub after_row : Sides → SitePlate → ℕ → ℕ → List ℕ → Source → List ℕ → Tells → Tells
after_row sides plate y number frame source counts old =
    finished_at sides y plate counts (with_taken plate.slot number frame source (begun_at y plate old))

-- ---- the row at a place of a job

-- the rack shows what it showed before and this row, where the strips have these byte counts
abbrev pub TellsRow : SiteJob → PlateRow → HeldRow → List (List ℕ) → Tells → Tells → Type 0
TellsRow job place held counts old new = (d : SitePlate) → new ≡ after_row (sides_of job)
    (slice_index_or job.plates place.plate d) place.y held.number held.bytes held.source
    (slice_index_or counts place.slot []) old

-- the byte counts of its slot are those from before plus this row
abbrev pub CountsRow : SiteJob → PlateRow → HeldRow → List (List ℕ) → List (List ℕ) → Type 0
CountsRow job place held old new = slice_index_or new place.slot [] ≡ counted place.y
    (place.y / rows_each job.width) (length (packed_in held.bytes)) (slice_index_or old place.slot [])
