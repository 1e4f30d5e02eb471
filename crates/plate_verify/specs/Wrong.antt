-- The differences between the held plates and the right ones.
use Rattle.std.specs.Prelude.{◌≡◌, ℕ, ◌<◌, nat_lt, if◌then◌else◌, List, All, length, slice_get, Option, Some}
use Rattle.std.specs.Prelude.{None, option_map, unwrap_or}
use Rattle.std.specs.List.{filter_map}
use Rattle.pr_ports.specs.Shelf.{held_at}
use Rattle.plan_json.specs.Data.{PlanData}
use Rattle.plan_rows.specs.Plates.{file_of, plate_rows, site_files}
use Rattle.plate_bytes.specs.Places.{row_holding}
use Rattle.pr_ports.specs.Difference.{difference_of}
use Rattle.plate_verify.specs.Order.{SitePlate, plates_in_order}

-- the state of the held plates of an edition
pub data Found : Type 0 where
  -- this many plates, each held with the right bytes
  AllRight : ℕ → Found
  -- the plate at a path is held with bytes that differ from this offset on; the offset is in this packed row
  -- of the right plate, or in none
  OtherAt : List ℕ → ℕ → Option ℕ → Found
  -- more bytes are held at a path than any plate has
  TooMany : List ℕ → Found
  -- nothing is held at a path
  NotHeld : List ℕ → Found

-- the largest number of bytes loaded of a plate
abbrev pub most_bytes : ℕ
most_bytes = 600000000

-- the difference between the held bytes of a plate's file and the file with these rows
abbrev pub wrong_with : List ℕ × List ℕ → List (List ℕ) → Option (List ℕ) → Option Found
wrong_with file rows None = Some (NotHeld file.0)
wrong_with file rows (Some bytes) =
    if nat_lt most_bytes (length bytes) then Some (TooMany file.0)
    else option_map (λ at. OtherAt file.0 at (row_holding rows at)) (difference_of file.1 bytes)

-- the difference at a plate of a site, from all rows in order and the held files
unfoldable pub wrong_at : PlanData → List (List ℕ) → List ℕ → List (List ℕ × List ℕ) → SitePlate
    → Option Found
wrong_at plan rows out held (site, plate) =
    let file = file_of plan rows out site plate in
    wrong_with file (plate_rows plan rows plate) (held_at held file.0)

-- all differences, in the order of the plates
abbrev pub wrongs : PlanData → List (List ℕ) → List ℕ → List (List ℕ × List ℕ) → List Found
wrongs plan rows out held = filter_map (wrong_at plan rows out held) (plates_in_order plan)

-- the first difference; if there is none, that all plates of all sites match
unfoldable pub first_wrong : PlanData → List (List ℕ) → List ℕ → List (List ℕ × List ℕ) → Found
first_wrong plan rows out held =
    unwrap_or (slice_get (wrongs plan rows out held) 0) (AllRight (length (plates_in_order plan)))

-- each file of each site is held with the right bytes
abbrev pub AreHeld : PlanData → List (List ℕ) → List ℕ → List (List ℕ × List ℕ) → Type 0
AreHeld plan rows out held =
    (site : ℕ) → site < length plan.sites
    → All (λ file. held_at held file.0 ≡ Some file.1) (site_files plan rows out site)
