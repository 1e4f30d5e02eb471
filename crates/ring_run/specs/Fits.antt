-- What a run leaves on the racks of its sites, by what each rack reports before and after.
use Rattle.std.specs.Prelude.{◌≡◌, ℕ, ◌<◌, ◌⊎◌, false, List, length, map, take, count_by, Some, IfSome}
use Rattle.std.specs.Prelude.{slice_get}
use Rattle.std.specs.List.{range_with_len}
use Rattle.pr_base.specs.Count.{Rose}
use Rattle.ring_rule.specs.declared.view.RingNumbers.{RingNumbers}
use Rattle.ring_lanes.specs.declared.source.Source.{Source}
use Rattle.ring_lanes.specs.declared.source.Source.TheVariants.{Ring}
use Rattle.tif_packbits.specs.Frame.{framed_row}
use Rattle.pr_rack.specs.Rack.{Plate}
use Rattle.pr_rack.specs.Told.{RackTells}
use Rattle.plan_json.specs.Data.{PlanData}
use Rattle.plan_rows.specs.Plates.{site_plates, site_files}
use Rattle.plan_rows.specs.Rows.{row_places, keeps_row}
use Rattle.press_job.specs.Job.{JobData}
use Rattle.press_job.specs.Rows.{plate_rows}
use Rattle.site_agent.specs.declared.kept.LeftCause.{LeftCause}
use Rattle.site_agent.specs.Plan.{drawn_rows, job_of, rows_up_to, FitsLeft}
use Rattle.site_agent.specs.Stands.{OthersHold, grown}
use Rattle.ring_run.specs.declared.site_end.SiteEnd.{SiteEnd}
use Rattle.ring_run.specs.declared.site_end.SiteEnd.TheVariants.{Finished, Left}

-- ---- a run

-- the task of a run: it delivers all rows of a plan, to sites that take them from these sources, as plates
-- with paths below the folder `out`
pub record Delivery : Type 0 where
  pub plan : PlanData
  pub rows : List (List ℕ)
  pub out : List ℕ
  pub source : ℕ → Source

-- the same, over a ring with this many readers and places, where the reader of a site has its number
abbrev pub by_ring : PlanData → List (List ℕ) → List ℕ → ℕ → ℕ → Delivery
by_ring plan rows out readers ring = record {
  plan = plan;
  rows = rows;
  out = out;
  source = λ site. Ring site readers ring;
}

-- the same for the rows of a job
abbrev pub by_job : JobData → List ℕ → ℕ → ℕ → Delivery
by_job job out readers ring = by_ring job.plan (plate_rows job.plan job.files) out readers ring

-- the same for the rows whose frames a ring has
abbrev pub on_ring : PlanData → List ℕ → RingNumbers → Delivery
on_ring plan out ring = by_ring plan (map framed_row ring.rows) out ring.readers ring.places

-- the files of a site in order
abbrev pub files_for : Delivery → ℕ → List Plate
files_for delivery site = site_files delivery.plan delivery.rows delivery.out site

-- the rows that a site keeps, in ascending order and each once, with their sources
abbrev pub drawn_for : Delivery → ℕ → List (ℕ × Source)
drawn_for delivery site = drawn_rows delivery.plan site (delivery.source site)

-- the number of the rows that a site keeps
abbrev pub kept_rows : PlanData → ℕ → ℕ
kept_rows plan site = count_by (keeps_row plan site) (range_with_len 0 (length (row_places plan)))

-- ---- the end of a site

-- a site that finished with this many plates and rows: its rack has all its files and all its rows in
-- addition, no slot of the rack is begun, and its last failed call is that of before
pub record FitsFinished (delivery : Delivery) (site : ℕ) (before now : RackTells) (plates rows' : ℕ)
    : Type 0 where
  pub plates_are : plates ≡ length (site_plates delivery.plan site)
  pub rows_are : rows' ≡ kept_rows delivery.plan site
  pub finished : now.tells.finished ≡ grown (files_for delivery site) before.tells.finished
  pub taken : now.tells.taken ≡ grown (drawn_for delivery site) before.tells.taken
  pub begun : (slot : ℕ) → slot < 5 → slice_get now.tells.begun slot ≡ Some false
  pub missed : now.missed ≡ before.missed

-- the files of a site that were finished when it left
abbrev pub files_by : Delivery → ℕ → LeftCause → List Plate
files_by delivery site cause = take cause.plates (files_for delivery site)

-- the rows of a site up to the one at which it left
abbrev pub drawn_by : Delivery → ℕ → LeftCause → List (ℕ × Source)
drawn_by delivery site cause = rows_up_to cause.row cause.call (drawn_for delivery site)

-- a site that left: its rack has, in addition, the files that were finished by then, and the rows up to the
-- one at which it left. It left because a call failed, which is the last failed call. The slots but that of
-- the row's plate hold the plates that are open at that row, so no further plate was begun
pub record FitsCause (delivery : Delivery) (site : ℕ) (before now : RackTells) (cause : LeftCause)
    : Type 0 where
  pub cause_fits : FitsLeft delivery.plan delivery.rows delivery.out site cause (files_by delivery site cause)
  pub finished : now.tells.finished ≡ grown (files_by delivery site cause) before.tells.finished
  pub taken : now.tells.taken ≡ grown (drawn_by delivery site cause) before.tells.taken
  pub counted : Rose before.faults now.faults
  pub missed : IfSome now.missed (λ last. last ≡ Some (cause.call, cause.path))
  pub others : OthersHold (job_of delivery.plan delivery.out site) delivery.rows cause.row now.tells

-- a site's end fits what its rack has in addition to before
abbrev pub FitsEnd : Delivery → ℕ → RackTells → RackTells → SiteEnd → Type 0
FitsEnd delivery site before now (Finished plates rows') =
    FitsFinished delivery site before now plates rows'
FitsEnd delivery site before now (Left cause) = FitsCause delivery site before now cause

-- a site of a run that ran out of memory: its rack has, in addition, the first of its files and the first of
-- its rows. No call of the rack failed in the run, or the site left because of one that did
pub record FitsPart (delivery : Delivery) (site : ℕ) (before now : RackTells) : Type 0 where
  pub files : ℕ
  pub rows' : ℕ
  pub finished : now.tells.finished ≡ grown (take files (files_for delivery site)) before.tells.finished
  pub taken : now.tells.taken ≡ grown (take rows' (drawn_for delivery site)) before.tells.taken
  pub failed : (now.missed ≡ before.missed)
      ⊎ ((cause : LeftCause) × FitsCause delivery site before now cause)

-- ---- all sites

-- each site has an end, which fits what its rack has in addition to before
pub record RunFits (delivery : Delivery) (before now : List RackTells) (ends : List SiteEnd) : Type 0 where
  pub count : length ends ≡ length delivery.plan.sites
  pub each : (site : ℕ) (old new : RackTells) (end : SiteEnd) → slice_get before site ≡ Some old
      → slice_get now site ≡ Some new → slice_get ends site ≡ Some end → FitsEnd delivery site old new end

-- the run ended out of memory
pub record RunPart (delivery : Delivery) (before now : List RackTells) : Type 0 where
  pub each : (site : ℕ) (old new : RackTells) → site < length delivery.plan.sites
      → slice_get before site ≡ Some old → slice_get now site ≡ Some new → FitsPart delivery site old new
