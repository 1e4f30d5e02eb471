-- The job that a plan gives a site, and what its rack shows when the site has finished or dropped out.
use Rattle.std.specs.Prelude.{◌≡◌, ℕ, ◌+◌, ◌<◌, Bool, true, false, nat_lt, ◌==◌, ◌&&◌, ◌||◌, List, length}
use Rattle.std.specs.Prelude.{map, filter, take, replicate, Contains}
use Rattle.std.specs.List.{range_with_len}
use Rattle.ring_lanes.specs.declared.source.Source.{Source}
use Rattle.tif_plate.specs.Plate.{strip_count}
use Rattle.pr_rack.specs.declared.rack.RackCall.{RackCall}
use Rattle.pr_rack.specs.declared.rack.RackCall.TheVariants.{Begin, Row, Finish}
use Rattle.pr_rack.specs.Rack.{Plate}
use Rattle.plan_json.specs.Data.{PlanData, plate_width, plate_height}
use Rattle.pr_base.specs.Ink.{slot_of}
use Rattle.plan_rows.specs.Inks.{ink_count, ink_place}
use Rattle.plan_rows.specs.Paths.{path_of}
use Rattle.plan_rows.specs.Plates.{PlateOf, site_plates, site_files, plates_done}
use Rattle.plan_rows.specs.Rows.{row_places, row_number, keeps_row}
use Rattle.site_agent.specs.declared.plate.SitePlate.{SitePlate}
use Rattle.site_agent.specs.declared.kept.LeftCause.{LeftCause}
use Rattle.site_agent.specs.Job.{SiteJob}
use Rattle.site_agent.specs.Site.{SiteData}

-- a plate of a site: its rows have the numbers of its group and ink
abbrev pub plate_of : PlanData → List ℕ → ℕ → PlateOf → SitePlate
plate_of plan out site plate = record {
  path = path_of plan out site plate.0 plate.1;
  first = plate.0.first + ink_place plate.0 plate.1;
  step = ink_count plate.0;
  slot = slot_of plate.1;
}

-- the job of these plates of a plan
abbrev pub job_over : PlanData → List SitePlate → SiteJob
job_over plan plates = record {
  plates = plates;
  width = plate_width plan;
  height = plate_height plan;
  dpi = plan.dpi;
  total = length (row_places plan);
}

-- the job of a site of a plan, with paths below the folder `out`
abbrev pub job_of : PlanData → List ℕ → ℕ → SiteJob
job_of plan out site = job_over plan (map (plate_of plan out site) (site_plates plan site))

-- the site of these plates before the first row
abbrev pub site_over : PlanData → List SitePlate → SiteData
site_over plan plates = record {
  job = job_over plan plates;
  next = 0;
  counts = replicate 5 (replicate (strip_count (plate_width plan) (plate_height plan)) 0);
  ended = false;
}

-- a site before the first row
abbrev pub fresh_site : PlanData → List ℕ → ℕ → SiteData
fresh_site plan out site = site_over plan (map (plate_of plan out site) (site_plates plan site))

-- the rows that a site keeps, taken from this source
abbrev pub drawn_rows : PlanData → ℕ → Source → List (ℕ × Source)
drawn_rows plan site source =
    map (λ n. (n, source)) (filter (keeps_row plan site) (range_with_len 0 (length (row_places plan))))

-- the call that finishes a plate
abbrev pub is_finish : RackCall → Bool
is_finish Begin = false
is_finish Row = false
is_finish Finish = true

-- those of such rows below a row, with that row itself only if the call was to finish its plate
abbrev pub rows_up_to : ℕ → RackCall → List (ℕ × Source) → List (ℕ × Source)
rows_up_to row call rows = filter (λ taken. nat_lt taken.0 row || taken.0 == row && is_finish call) rows

-- a site dropped out for this cause, and its rack's finished plates grew by these
pub record FitsLeft (plan : PlanData) (rows : List (List ℕ)) (out : List ℕ) (site : ℕ) (cause : LeftCause)
    (grown : List Plate) : Type 0 where
  pub keeps : keeps_row plan site cause.row ≡ true
  -- the plate of the row, and the row's y from its top
  pub plate : PlateOf
  pub y : ℕ
  pub of : Contains (site_plates plan site) plate
  pub below : y < plate_height plan
  pub number : cause.row ≡ row_number plate.0 y plate.1
  pub path : cause.path ≡ path_of plan out site plate.0 plate.1
  pub begins : cause.call ≡ Begin → y ≡ 0
  pub ends : cause.call ≡ Finish → y + 1 ≡ plate_height plan
  pub plates : cause.plates ≡ plates_done plan site cause.row
  pub grown' : grown ≡ take cause.plates (site_files plan rows out site)
