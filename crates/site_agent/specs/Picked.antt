-- A site of some of its plates: the picked ones, one bit per plate in the order of its files.
use Rattle.std.specs.Prelude.{ℕ, Bool, if◌then◌else◌, List, [], ◌∷◌}
use Rattle.pr_rack.specs.Rack.{Plate}
use Rattle.plan_json.specs.Data.{PlanData}
use Rattle.plan_rows.specs.Plates.{site_files}
use Rattle.site_agent.specs.Job.{SiteJob}
use Rattle.site_agent.specs.Plan.{fresh_site, job_of}
use Rattle.site_agent.specs.Site.{SiteData}

-- the entries of a list whose bits are true
abbrev pub kept_where : {X : Type 0} → List Bool → List X → List X
kept_where [] xs = []
kept_where (bit ∷ bits) [] = []
kept_where (bit ∷ bits) (x ∷ xs) = if bit then x ∷ kept_where bits xs else kept_where bits xs

-- a job restricted to some of its plates
abbrev pub part_of : SiteJob → List Bool → SiteJob
part_of job bits = record job { plates = kept_where bits job.plates }

-- the job of a site of a plan, restricted to the picked plates
abbrev pub picked_job : PlanData → List ℕ → ℕ → List Bool → SiteJob
picked_job plan out site bits = part_of (job_of plan out site) bits

-- the site of these plates before the first row
abbrev pub picked_site : PlanData → List ℕ → ℕ → List Bool → SiteData
picked_site plan out site bits = record (fresh_site plan out site) { job = picked_job plan out site bits }

-- the files of the picked plates
abbrev pub picked_files : PlanData → List (List ℕ) → List ℕ → ℕ → List Bool → List Plate
picked_files plan rows out site bits = kept_where bits (site_files plan rows out site)
