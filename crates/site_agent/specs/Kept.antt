-- What a site's result means for its row.
use Rattle.std.specs.Prelude.{◌≡◌, ℕ, ◌+◌, ◌⊎◌, false, List, Option, Some, slice_get, slice_index_or}
use Rattle.ring_lanes.specs.Held.{HeldRow}
use Rattle.ring_lanes.specs.declared.source.Source.{Source}
use Rattle.tif_packbits.specs.Frame.{framed_row}
use Rattle.pr_rack.specs.declared.rack.RackCall.TheVariants.{Begin, Finish}
use Rattle.pr_rack.specs.declared.rack.RackFault.{RackFault}
use Rattle.pr_rack.specs.declared.rack.RackFault.TheVariants as rack_faults
use Rattle.pr_rack.specs.Rack.{with_row}
use Rattle.pr_rack.specs.Told.{Tells}
use Rattle.site_agent.specs.declared.plate.SitePlate.{SitePlate}
use Rattle.site_agent.specs.declared.kept.Kept.{Kept}
use Rattle.site_agent.specs.declared.kept.Kept.TheVariants.{Done, Left, Memory}
use Rattle.site_agent.specs.declared.kept.LeftCause.{LeftCause}
use Rattle.site_agent.specs.Job.{SiteJob}
use Rattle.site_agent.specs.Given.{finished_count, IsRowOf}
use Rattle.site_agent.specs.Site.{SiteData}
use Rattle.site_agent.specs.Stands.{StandsAfter}

-- P if the result is Done
abbrev pub OnDone : Kept → Type 0 → Type 0
OnDone Done P = P
OnDone (Left cause) P = Unit {0}
OnDone Memory P = Unit {0}

-- P of the cause if the result is Left
abbrev pub IfLeft : Kept → (LeftCause → Type 0) → Type 0
IfLeft Done P = Unit {0}
IfLeft (Left cause) P = P cause
IfLeft Memory P = Unit {0}

-- P if the result is Memory
abbrev pub OnMemory : Kept → Type 0 → Type 0
OnMemory Done P = Unit {0}
OnMemory (Left cause) P = Unit {0}
OnMemory Memory P = P

-- P if the site ended
abbrev pub OnEnd : Kept → Type 0 → Type 0
OnEnd Done P = Unit {0}
OnEnd (Left cause) P = P
OnEnd Memory P = P

-- the result if the rack refused a call with this fault
abbrev pub kept_of : RackFault → LeftCause → Kept
kept_of rack_faults.Failed cause = Left cause
kept_of rack_faults.Memory cause = Memory

-- the site continues with the row after this one
pub record GoesOn (old new : SiteData) : Type 0 where
  pub job : new.job ≡ old.job
  pub next : new.next ≡ old.next + 1
  pub going : new.ended ≡ false

-- for any rows whose next is this one: if those below it were processed, it is now processed too
abbrev pub KeepsRow : SiteData → SiteData → HeldRow → Tells → Tells → Type 0
KeepsRow site site' held old new = (rows : List (List ℕ)) (before : Tells)
    → slice_get rows site.next ≡ Some (framed_row held.bytes)
    → StandsAfter site.job rows held.source site.next before old site.counts
    → StandsAfter site.job rows held.source (site.next + 1) before new site'.counts

-- why a site dropped out at row n: the row belongs to its plate at this path, the call begins the plate only
-- at its first row and finishes it only at its last, and `plates` plates have their last row below row n
pub record IsCauseAt (job : SiteJob) (n : ℕ) (cause : LeftCause) : Type 0 where
  -- the index of the plate, and the row's y from its top
  pub index : ℕ
  pub y : ℕ
  pub is : IsRowOf job n index y
  pub path : (d : SitePlate) → cause.path ≡ (slice_index_or job.plates index d).path
  pub row : cause.row ≡ n
  pub plates : cause.plates ≡ finished_count job n
  pub begins : cause.call ≡ Begin → y ≡ 0
  pub ends : cause.call ≡ Finish → y + 1 ≡ job.height

-- the row was taken either once more or not at all
abbrev pub TakenOnce : ℕ → Source → Option (List (ℕ × Source)) → Option (List (ℕ × Source)) → Type 0
TakenOnce number source old new = (new ≡ old) ⊎ (new ≡ with_row number source old)
