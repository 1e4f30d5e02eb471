-- What the rows below row n mean to a site: which of them it keeps, how many each plate has, and which plates
-- are open.
use Rattle.std.specs.Prelude.{◌≡◌, ◌≢◌, ◌<◌, ℕ, ◌==◌, ◌&&◌, Bool, nat_lt, List, [], length, map, filter, find}
use Rattle.std.specs.Prelude.{count_by, Option, slice_index_or}
use Rattle.std.specs.List.{list_any, range_with_len}
use Rattle.std.specs.Option.{option_map_or}
use Rattle.site_agent.specs.declared.plate.SitePlate.{SitePlate}
use Rattle.site_agent.specs.Job.{SiteJob, number_in, last_in}

-- the number of a plate's rows below row n
unfoldable pub given : ℕ → SitePlate → ℕ → ℕ
given height plate n = count_by (λ y. nat_lt (number_in plate y) n) (range_with_len 0 height)

-- the first `count` rows of a plate from its top, taken from all rows
unfoldable pub rows_of : List (List ℕ) → SitePlate → ℕ → List (List ℕ)
rows_of rows plate count = map (λ y. slice_index_or rows (number_in plate y) []) (range_with_len 0 count)

-- some rows of the plate are below row n, and some are not
abbrev pub is_open : ℕ → ℕ → SitePlate → Bool
is_open height n plate = nat_lt 0 (given height plate n) && nat_lt (given height plate n) height

-- the plate that is open in a slot
unfoldable pub open_in : SiteJob → ℕ → ℕ → Option SitePlate
open_in job n slot = find (λ plate. plate.slot == slot && is_open job.height n plate) job.plates

-- the number of rows below row n of the plate that is open in a slot
abbrev pub open_rows : SiteJob → ℕ → ℕ → ℕ
open_rows job n slot = option_map_or (λ plate. given job.height plate n) (open_in job n slot) 0

-- the number of plates whose last row is below row n
unfoldable pub finished_count : SiteJob → ℕ → ℕ
finished_count job n = count_by (λ plate. nat_lt (last_in job.height plate) n) job.plates

-- row n belongs to a plate of the site
unfoldable pub is_kept : SiteJob → ℕ → Bool
is_kept job n =
    list_any (λ plate. list_any (λ y. number_in plate y == n) (range_with_len 0 job.height)) job.plates

-- the rows below row n that belong to a plate of the site
unfoldable pub kept_below : SiteJob → ℕ → List ℕ
kept_below job n = filter (is_kept job) (range_with_len 0 n)

-- row n is row y of plate k
pub record IsRowOf (job : SiteJob) (n k y : ℕ) : Type 0 where
  pub within : k < length job.plates
  pub below : y < job.height
  pub number : (d : SitePlate) → number_in (slice_index_or job.plates k d) y ≡ n

-- row n belongs to no plate
pub record IsNoRow (job : SiteJob) (n : ℕ) : Type 0 where
  pub none : (k y : ℕ) (d : SitePlate) → k < length job.plates → y < job.height
      → number_in (slice_index_or job.plates k d) y ≢ n
