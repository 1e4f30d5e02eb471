-- What contracts see of a site, and what the site keeps.
use Rattle.std.specs.Prelude.{◌≡◌, ℕ, ◌<◌, ◌≤◌, Bool, List, All, length, map, replicate}
use Rattle.std.specs.Prelude.{slice_index_or}
use Rattle.tif_plate.specs.Plate.{strip_count}
use Rattle.tif_plate.specs.declared.sides.Sides.{Sides}
use Rattle.plate_bytes.specs.Strips.{StripState}
use Rattle.site_agent.specs.declared.plate.SitePlate.{SitePlate}
use Rattle.site_agent.specs.declared.plate_row.PlateRow.{PlateRow}
use Rattle.site_agent.specs.Job.{SiteJob, sides_of, IsJob}
use Rattle.site_agent.specs.Given.{open_rows, finished_count, IsRowOf}

-- a site: its job, the number of the next row, the byte counts of the strips of the plate in each slot, and
-- whether its rack refused a row
pub record SiteData : Type 0 where
  pub job : SiteJob
  pub next : ℕ
  pub counts : List (List ℕ)
  pub ended : Bool

abbrev pub job_with : List SitePlate → Sides → ℕ → SiteJob
job_with plates sides total = record {
  plates = plates;
  width = sides.width;
  height = sides.height;
  dpi = sides.dpi;
  total = total;
}

abbrev pub counts_of : List StripState → List (List ℕ)
counts_of slots = map (λ strips. strips.counts) slots

-- the strips of a slot have counted the rows of its plate below row n
pub record IsCounted (job : SiteJob) (n slot : ℕ) (strips' : StripState) : Type 0 where
  pub sides : strips'.sides ≡ sides_of job
  pub rows : strips'.next ≡ open_rows job n slot
  pub strips : length strips'.counts ≡ strip_count job.width job.height

-- a site counts the rows below the next one
pub record IsCounting (job : SiteJob) (next finished' : ℕ) (slots' : List StripState) : Type 0 where
  pub is : IsJob job
  pub within : next ≤ job.total
  pub finished : finished' ≡ finished_count job next
  pub slots : length slots' ≡ 5
  pub each : (s : ℕ) (d : StripState) → s < 5 → IsCounted job next s (slice_index_or slots' s d)

-- the strips of five plates of these sides, none of which has a row
pub record AreFresh (sides' : Sides) (slots' : List StripState) : Type 0 where
  pub counts : counts_of slots' ≡ replicate 5 (replicate (strip_count sides'.width sides'.height) 0)
  pub rows : All (λ strips. strips.next ≡ 0) slots'
  pub sides : All (λ strips. strips.sides ≡ sides') slots'

-- the place of row n
pub record IsPlateRow (job : SiteJob) (n : ℕ) (place : PlateRow) : Type 0 where
  pub row : IsRowOf job n place.plate place.y
  pub slot : (d : SitePlate) → (slice_index_or job.plates place.plate d).slot ≡ place.slot
