-- The state of a site and its rack after the rows below row n.
use Rattle.std.specs.Prelude.{◌≡◌, ◌≢◌, ℕ, ◌+◌, ◌<◌, Bool, List, ◌++◌, length, map, sum, take, Option, []}
use Rattle.std.specs.Prelude.{Some}
use Rattle.std.specs.Prelude.{None, IfSome, is_some, slice_get, slice_index_or}
use Rattle.std.specs.List.{flat_map}
use Rattle.std.specs.Option.{option_map}
use Rattle.ring_lanes.specs.declared.source.Source.{Source}
use Rattle.tif_packbits.specs.Packbits.{packing}
use Rattle.tif_plate.specs.Plate.{plate_file}
use Rattle.tif_plate.specs.Tail.{front_bytes, counts_so_far}
use Rattle.pr_rack.specs.Rack.{Plate, Slots}
use Rattle.pr_rack.specs.Told.{Tells}
use Rattle.site_agent.specs.declared.plate.SitePlate.{SitePlate}
use Rattle.site_agent.specs.Job.{SiteJob}
use Rattle.site_agent.specs.Given.{given, rows_of, open_in, finished_count, kept_below, IsRowOf}

-- a list with these appended, where known
abbrev pub grown : {X : Type 0} → List X → Option (List X) → Option (List X)
grown more list = option_map (λ old. old ++ more) list

-- the file of a plate, made from all rows
abbrev pub file_of : SiteJob → List (List ℕ) → SitePlate → Plate
file_of job rows plate = (plate.path, plate_file job.width job.dpi (rows_of rows plate job.height))

abbrev pub files_of : SiteJob → List (List ℕ) → List Plate
files_of job rows = map (file_of job rows) job.plates

-- the files of the plates whose last row is below row n
abbrev pub files_below : SiteJob → List (List ℕ) → ℕ → List Plate
files_below job rows n = take (finished_count job n) (files_of job rows)

-- the rows of a plate below row n
abbrev pub rows_below : SiteJob → List (List ℕ) → ℕ → SitePlate → List (List ℕ)
rows_below job rows n plate = rows_of rows plate (given job.height plate n)

-- a begun plate: the front, and its packed rows below row n
abbrev pub begun_plate : SiteJob → List (List ℕ) → ℕ → SitePlate → Plate
begun_plate job rows n plate = (plate.path, front_bytes ++ flat_map packing (rows_below job rows n plate))

-- the content of a slot
abbrev pub plate_below : SiteJob → List (List ℕ) → ℕ → ℕ → Option Plate
plate_below job rows n slot = option_map (begun_plate job rows n) (open_in job n slot)

-- the numbers of the site's rows below row n, and their source
abbrev pub taken_below : SiteJob → Source → ℕ → List (ℕ × Source)
taken_below job source n = map (λ k. (k, source)) (kept_below job n)

-- a rack that showed `before` has since gained these files and rows, and its slots have these contents
pub record Holds (files : List Plate) (rows : List (ℕ × Source)) (open' : ℕ → Option Plate)
    (before now : Tells) : Type 0 where
  pub finished : now.finished ≡ grown files before.finished
  pub taken : now.taken ≡ grown rows before.taken
  pub begun : (slot : ℕ) → slot < 5 → slice_get now.begun slot ≡ Some (is_some (open' slot))
  pub working : IfSome now.working (λ slots. (slot : ℕ) → slot < 5 → slice_get slots slot ≡ Some (open' slot))

-- the byte counts of the strips of the plate in a slot are those of its rows below row n
abbrev pub AreCounts : SiteJob → List (List ℕ) → ℕ → List (List ℕ) → ℕ → Type 0
AreCounts job rows n counts slot =
    IfSome (open_in job n slot) (λ plate.
    slice_index_or counts slot [] ≡ counts_so_far job.width job.height (rows_below job rows n plate))

-- all rows below row n have been processed: since the rack showed `before`, the plates whose last row is
-- below row n were finished and the site's rows were taken from this source, and the begun plates contain
-- their rows so far
pub record StandsAfter (job : SiteJob) (rows : List (List ℕ)) (source : Source) (n : ℕ) (before now : Tells)
    (counts : List (List ℕ)) : Type 0 where
  pub rack : Holds (files_below job rows n) (taken_below job source n) (plate_below job rows n) before now
  pub strips : (slot : ℕ) → slot < 5 → AreCounts job rows n counts slot

-- a rack's slots but this one have these contents
pub record HoldsBut (own : ℕ) (open' : ℕ → Option Plate) (now : Tells) : Type 0 where
  pub begun : (slot : ℕ) → slot < 5 → slot ≢ own → slice_get now.begun slot ≡ Some (is_some (open' slot))
  pub working : IfSome now.working (λ slots. (slot : ℕ) → slot < 5 → slot ≢ own
      → slice_get slots slot ≡ Some (open' slot))

-- the slots but that of row n's plate have the plates that are open below row n, with their rows so far, and
-- the others of them are not begun
abbrev pub OthersHold : SiteJob → List (List ℕ) → ℕ → Tells → Type 0
OthersHold job rows n now = (k y : ℕ) (d : SitePlate) → IsRowOf job n k y
    → HoldsBut (slice_index_or job.plates k d).slot (plate_below job rows n) now

-- ---- what a site requires of its rack

-- the slots of the open plates are begun, and no others
pub record AreBegun (job : SiteJob) (n : ℕ) (begun : List Bool) : Type 0 where
  pub each : (slot : ℕ) → slot < 5 → slice_get begun slot ≡ Some (is_some (open_in job n slot))

-- the path of a plate and its length
abbrev pub path_and_length : Plate → List ℕ × ℕ
path_and_length plate = (plate.0, length plate.1)

-- a plate is in its slot under its path, with this length
abbrev pub IsAsLong : SitePlate → ℕ → Slots → Type 0
IsAsLong plate len slots =
    option_map path_and_length (slice_index_or slots plate.slot None) ≡ Some (plate.path, len)

-- each open plate is in its slot under its path, as long as the front and the rows that the site counted
pub record AreAsLong (job : SiteJob) (n : ℕ) (counts : List (List ℕ)) (slots : Slots) : Type 0 where
  pub each : (slot : ℕ) → slot < 5 → option_map path_and_length (slice_index_or slots slot None)
      ≡ option_map (λ plate. (plate.path, 8 + sum (slice_index_or counts slot []))) (open_in job n slot)
