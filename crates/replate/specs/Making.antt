-- The progress of a delivery's sites. This is the contract of private calls.
use Rattle.std.specs.Prelude.{◌≡◌, ℕ, ◌+◌, ◌-◌, ◌<◌, ◌≤◌, ◌==◌, Bool, true, false, not, List, length, map}
use Rattle.std.specs.Prelude.{count_by, Some, IfSome, slice_get}
use Rattle.std.specs.List.{range_with_len}
use Rattle.pr_base.specs.Row.{row_size}
use Rattle.ring_lanes.specs.Held.{HeldRow}
use Rattle.ring_lanes.specs.declared.source.Source.TheVariants.{Deck}
use Rattle.pr_rack.specs.Told.{RackTells, Tells}
use Rattle.plan_json.specs.Data.{PlanData}
use Rattle.plan_json.specs.Plan.{IsPlan}
use Rattle.site_agent.specs.Given.{finished_count, is_kept}
use Rattle.site_agent.specs.Going.{IsGoing}
use Rattle.site_agent.specs.Picked.{picked_job, picked_site}
use Rattle.site_agent.specs.Site.{SiteData}
use Rattle.site_agent.specs.Stands.{AreAsLong, AreBegun}
use Rattle.tif_packbits.specs.Frame.{IsFrame, framed_row}
use Rattle.replate.specs.declared.maker.Maker.{Maker}
use Rattle.replate.specs.declared.remade.RemadeEnd.{RemadeEnd}
use Rattle.replate.specs.declared.remade.RemadeEnd.TheVariants.{Done, Left}
use Rattle.replate.specs.Picks.{PicksData}
use Rattle.replate.specs.Remade.{AreRowsOf, FitsLeft, FitsPart, Making, all_files, files_for, picked_bits}

-- these are the frames of the rows from which a delivery makes its plates
pub record Carries (making : Making) (frames : List (List ℕ)) : Type 0 where
  pub plan_is : IsPlan making.plan
  pub rows_are : AreRowsOf making.plan frames
  pub framed : making.rows ≡ map framed_row frames

-- ---- one site

-- whether a delivery has ended at a site
abbrev pub has_left : RemadeEnd → Bool
has_left (Done made kept) = false
has_left (Left made path) = true

-- a site continues, and has handled the rows below row n
pub record GoesOnAt (making : Making) (site n : ℕ) (before now : RackTells) (going : SiteData)
    (made kept : ℕ) : Type 0 where
  pub job_is : going.job ≡ picked_job making.plan making.out site (making.bits site)
  pub next_is : going.next ≡ n
  pub is : IsGoing making.rows Deck before.tells now.tells going
  pub made_are : made ≡ length (files_for making site)
  pub kept_are : made + kept ≡ length (all_files making site)
  pub missed : now.missed ≡ before.missed
  pub faults : before.faults ≤ now.faults

-- a site has left
pub record HasLeft (making : Making) (site : ℕ) (before now : RackTells) (made : ℕ) (path : List ℕ)
    : Type 0 where
  pub fits : FitsLeft making site before now made path
  pub faults : before.faults ≤ now.faults

-- the rack of a site has at least a part of its files
pub record HasPart (making : Making) (site : ℕ) (before now : RackTells) : Type 0 where
  pub part : FitsPart making site before now
  pub faults : before.faults ≤ now.faults

-- a site has handled the rows below row n, or has left
abbrev pub ServedBy : Making → ℕ → ℕ → RackTells → RackTells → SiteData → RemadeEnd → Type 0
ServedBy making site n before now going (Done made kept) =
    GoesOnAt making site n before now going made kept
ServedBy making site n before now going (Left made path) = HasLeft making site before now made path

abbrev pub IsServed : Making → ℕ → ℕ → RackTells → RackTells → Maker → Type 0
IsServed making site n before now maker = ServedBy making site n before now maker.site maker.end

-- in some delivery, a site has handled the rows below row n, or has left
pub record SomeServed (frames : List (List ℕ)) (n : ℕ) (now : RackTells) (maker : Maker) : Type 0 where
  pub making : Making
  pub site' : ℕ
  pub before : RackTells
  pub carries : Carries making frames
  pub is : IsServed making site' n before now maker

-- ---- a row

-- a site handled row n: this holds in every delivery
pub record Made (frames : List (List ℕ)) (n : ℕ) (old new : RackTells) (was is : Maker) : Type 0 where
  pub each : (making : Making) (site : ℕ) (before : RackTells) → Carries making frames
      → IsServed making site n before old was → IsServed making site (n + 1) before new is

-- the delivery ended with row n: in every delivery the site's rack has a part
pub record Stopped (frames : List (List ℕ)) (n : ℕ) (old new : RackTells) (was : Maker) : Type 0 where
  pub each : (making : Making) (site : ℕ) (before : RackTells) → Carries making frames
      → IsServed making site n before old was → HasPart making site before new

-- ---- a row that is kept

-- what `Site::keep` requires of a site, a row and the site's rack
pub record Asks (going : SiteData) (held : HeldRow) (now : Tells) : Type 0 where
  pub on : going.ended ≡ false
  pub next_is : held.number ≡ going.next
  pub within : going.next < going.job.total
  pub frame : IsFrame held.bytes
  pub row : length (framed_row held.bytes) ≡ row_size going.job.width
  pub begun : AreBegun going.job going.next now.begun
  pub working : IfSome now.working (AreAsLong going.job going.next going.counts)

-- ---- plates that are left to make

-- a site that continues has not ended
abbrev pub UpBy : RemadeEnd → SiteData → Type 0
UpBy (Done made kept) site = site.ended ≡ false
UpBy (Left made path) site = Unit {0}

abbrev pub IsUp : Maker → Type 0
IsUp maker = UpBy maker.end maker.site

abbrev pub making_by : RemadeEnd → SiteData → Bool
making_by (Done made kept) site = not (finished_count site.job site.next == length site.job.plates)
making_by (Left made path) site = false

-- whether a site continues and has plates left to make
abbrev pub is_making : Maker → Bool
is_making maker = making_by maker.end maker.site

-- ---- a row that is passed over

abbrev pub keeps_by : RemadeEnd → SiteData → Bool
keeps_by (Done made kept) site = is_kept site.job site.next
keeps_by (Left made path) site = false

-- whether a site continues and the next row is of one of its plates
abbrev pub keeps_next : Maker → Bool
keeps_next maker = keeps_by maker.end maker.site

-- a site that continues has a next row
pub record HasNext (site : SiteData) : Type 0 where
  pub on : site.ended ≡ false
  pub within : site.next < site.job.total

abbrev pub NextBy : RemadeEnd → SiteData → Type 0
NextBy (Done made kept) site = HasNext site
NextBy (Left made path) site = Unit {0}

abbrev pub IsBeforeRow : Maker → Type 0
IsBeforeRow maker = NextBy maker.end maker.site

abbrev pub passed_by : RemadeEnd → SiteData → SiteData
passed_by (Done made kept) site = record site { next = site.next + 1 }
passed_by (Left made path) site = site

-- a site after a row that it passed over, if it continues
abbrev pub passed : Maker → Maker
passed maker = record maker { site = passed_by maker.end maker.site }

-- ---- all sites

-- in some delivery, each site with its rack has handled the rows below row n, or has left
abbrev pub AllSomeServed : {R : Type 0} → (R → RackTells) → List (List ℕ) → ℕ → List Maker → List R → Type 0
AllSomeServed {R} tell frames n makers racks = (i : ℕ) (maker : Maker) (rack : R)
    → slice_get makers i ≡ Some maker → slice_get racks i ≡ Some rack → SomeServed frames n (tell rack) maker

-- each site handled row n
abbrev pub AllMade : {R : Type 0} → (R → RackTells) → List (List ℕ) → ℕ → List Maker → List R → List Maker
    → List R → Type 0
AllMade {R} tell frames n makers racks makers' racks' = (i : ℕ) (maker maker' : Maker) (rack rack' : R)
    → slice_get makers i ≡ Some maker → slice_get racks i ≡ Some rack → slice_get makers' i ≡ Some maker'
    → slice_get racks' i ≡ Some rack' → Made frames n (tell rack) (tell rack') maker maker'

-- the delivery ended with row n
abbrev pub AllStopped : {R : Type 0} → (R → RackTells) → List (List ℕ) → ℕ → List Maker → List R → List R
    → Type 0
AllStopped {R} tell frames n makers racks racks' = (i : ℕ) (maker : Maker) (rack rack' : R)
    → slice_get makers i ≡ Some maker → slice_get racks i ≡ Some rack → slice_get racks' i ≡ Some rack'
    → Stopped frames n (tell rack) (tell rack') maker

-- ---- the first

-- a site of a delivery before the first row
abbrev pub fresh_maker : PlanData → List ℕ → PicksData → ℕ → Maker
fresh_maker plan out picks site =
    let bits = picked_bits picks plan site in
    let made = count_by (λ bit. bit) bits in
    record { site = picked_site plan out site bits; end = Done made (length bits - made) }

-- all sites of a delivery before the first row
abbrev pub fresh_makers : PlanData → List ℕ → PicksData → List Maker
fresh_makers plan out picks = map (fresh_maker plan out picks) (range_with_len 0 (length plan.sites))
