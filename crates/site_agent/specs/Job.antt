-- A site's job: its plates, and which of all rows belong to them.
use Rattle.std.specs.Prelude.{◌≡◌, ◌≢◌, ℕ, ◌+◌, ◌-◌, ◌*◌, ◌^◌, ◌<◌, List, length, All, AllPairs}
use Rattle.tif_plate.specs.Plate.{IsSide, IsDpi}
use Rattle.tif_plate.specs.declared.sides.Sides.{Sides}
use Rattle.site_agent.specs.declared.plate.SitePlate.{SitePlate}

-- the number of row y of a plate among all rows
abbrev pub number_in : SitePlate → ℕ → ℕ
number_in plate y = plate.first + y * plate.step

-- the number of the last row of a plate
abbrev pub last_in : ℕ → SitePlate → ℕ
last_in height plate = number_in plate (height - 1)

-- the plates of a site in the order of their files, their sides in pixels and their resolution, and the
-- number of all rows
pub record SiteJob : Type 0 where
  pub plates : List SitePlate
  pub width : ℕ
  pub height : ℕ
  pub dpi : ℕ
  pub total : ℕ

abbrev pub sides_of : SiteJob → Sides
sides_of job = record { width = job.width; height = job.height; dpi = job.dpi }

-- a plate of this height precedes another in the order of their rows
pub record IsBefore (height : ℕ) (plate next : SitePlate) : Type 0 where
  pub starts : plate.first < next.first
  pub ends : last_in height plate < last_in height next
  -- in one slot they do not overlap
  pub apart : plate.slot ≡ next.slot → last_in height plate < next.first
  -- no row belongs to both
  pub other : (y z : ℕ) → y < height → z < height → number_in plate y ≢ number_in next z

-- one of the five slots, and rows with different numbers
pub record IsSitePlate (plate : SitePlate) : Type 0 where
  pub slot : plate.slot < 5
  pub step : 0 < plate.step

pub record IsJob (job : SiteJob) : Type 0 where
  pub width : IsSide job.width
  pub height : IsSide job.height
  pub dpi : IsDpi job.dpi
  pub each : All IsSitePlate job.plates
  pub order : AllPairs (IsBefore job.height) job.plates
  pub within : All (λ plate. last_in job.height plate < job.total) job.plates
  -- row numbers fit in 64 bits, and the number of plates in 32
  pub rows : job.total < 2 ^ 64
  pub few : length job.plates < 2 ^ 32
