-- The progress of a run's readers. This is the contract of private calls.
use Rattle.std.specs.Prelude.{◌≡◌, ℕ, ◌-◌, ◌<◌, ◌≤◌, if◌then◌else◌, Bool, true, false, List, length, map}
use Rattle.std.specs.Prelude.{◌++◌, drop, filter, slice_get, take, Option, Some, None}
use Rattle.std.specs.List.{enumerate_from, flat_map}
use Rattle.pr_base.specs.Row.{row_size}
use Rattle.ring_rule.specs.declared.view.RingNumbers.{RingNumbers}
use Rattle.ring_lanes.specs.Reader.{ReaderState}
use Rattle.ring_lanes.specs.declared.source.Source.TheVariants.{Ring}
use Rattle.tif_packbits.specs.Frame.{AreFrames}
use Rattle.pr_rack.specs.Told.{RackTells}
use Rattle.plan_json.specs.Data.{PlanData, plate_width}
use Rattle.plan_json.specs.Plan.{IsPlan}
use Rattle.plan_rows.specs.declared.group.Group.{Group}
use Rattle.plan_rows.specs.Inks.{has_site}
use Rattle.plan_rows.specs.Plates.{PlateOf, group_plates, site_plates}
use Rattle.plan_rows.specs.Groups.{groups_of}
use Rattle.plan_rows.specs.Rows.{row_places, rows_of}
use Rattle.ink_keys.specs.Counts.{CountsData, IsBounded, no_counts}
use Rattle.ink_keys.specs.Turn.{CountsRows, KeyReaderData}
use Rattle.site_agent.specs.declared.kept.LeftCause.{LeftCause}
use Rattle.site_agent.specs.Going.{IsGoing}
use Rattle.site_agent.specs.Plan.{fresh_site, job_of}
use Rattle.site_agent.specs.Site.{SiteData}
use Rattle.ring_run.specs.declared.role.Role.{Role}
use Rattle.ring_run.specs.declared.role.Role.TheVariants.{Going, Left, Stopped, Counting}
use Rattle.ring_run.specs.declared.site_end.SiteEnd.{SiteEnd}
use Rattle.ring_run.specs.declared.site_end.SiteEnd.TheVariants.{Finished}
use Rattle.ring_run.specs.declared.site_end.SiteEnd.TheVariants as Ended
use Rattle.ring_run.specs.Fits.{Delivery, FitsCause, FitsPart, kept_rows}
use Rattle.ring_run.specs.Seat.{SeatData}

-- the frames of the rows to deliver pass through a ring
pub record Carries (delivery : Delivery) (ring : RingNumbers) : Type 0 where
  pub plan_is : IsPlan delivery.plan
  pub are : AreFrames (row_size (plate_width delivery.plan)) delivery.rows ring.rows
  pub count : length delivery.rows ≡ length (row_places delivery.plan)
  pub total : ring.total ≡ length ring.rows
  pub source_is : (site : ℕ) → delivery.source site ≡ Ring site ring.readers ring.places

-- the task of a run's readers: the sites make a delivery, and a key reader counts for this many keys
pub record Work : Type 0 where
  pub delivery : Delivery
  pub keys : ℕ

-- ---- one site

-- a site continues, and has handled the rows below row n
pub record GoesOnAt (delivery : Delivery) (site n : ℕ) (before now : RackTells) (going : SiteData)
    : Type 0 where
  pub job_is : going.job ≡ job_of delivery.plan delivery.out site
  pub next_is : going.next ≡ n
  pub is : IsGoing delivery.rows (delivery.source site) before.tells now.tells going
  pub missed : now.missed ≡ before.missed
  pub faults : before.faults ≤ now.faults

-- a site has left
pub record HasLeft (delivery : Delivery) (site : ℕ) (before now : RackTells) (cause : LeftCause)
    : Type 0 where
  pub fits : FitsCause delivery site before now cause
  pub part : FitsPart delivery site before now
  pub faults : before.faults ≤ now.faults

-- a site ran out of memory, and no call of its rack failed
pub record HasStopped (delivery : Delivery) (site : ℕ) (before now : RackTells) : Type 0 where
  pub part : FitsPart delivery site before now
  pub missed : now.missed ≡ before.missed
  pub faults : before.faults ≤ now.faults

-- ---- a key reader

-- the counts of a plan's plates before the first row
abbrev pub first_counts : PlanData → ℕ → CountsData
first_counts plan keys = no_counts (length (groups_of plan)) (plate_width plan) keys

-- a key reader has counted the rows of a ring below row n
pub record IsCounting (work : Work) (ring : RingNumbers) (n : ℕ) (key : KeyReaderData) : Type 0 where
  pub rows : key.rows ≡ rows_of work.delivery.plan
  pub bounded : IsBounded key.counts n
  pub counted : CountsRows (rows_of work.delivery.plan) ring 0 n (first_counts work.delivery.plan work.keys)
      key.counts

-- ---- a reader, with the rack of a site before the run and now

-- P of a rack, which a site has
abbrev pub OnRack : (RackTells → RackTells → Type 0) → Option RackTells → Option RackTells → Type 0
OnRack P (Some before) (Some now) = P before now
OnRack P (Some before) None = ⊥
OnRack P None now = ⊥

-- a reader has handled the rows of a ring below row n, or it is a site that has left or ran out of memory
abbrev pub IsServed : Work → ℕ → RingNumbers → ℕ → Option RackTells → Option RackTells → Role → Type 0
IsServed work site ring n before now (Going going) =
    OnRack (λ old new. GoesOnAt work.delivery site n old new going) before now
IsServed work site ring n before now (Left cause) =
    OnRack (λ old new. HasLeft work.delivery site old new cause) before now
IsServed work site ring n before now Stopped = OnRack (HasStopped work.delivery site) before now
IsServed work site ring n before now (Counting key) = (now ≡ None) × IsCounting work ring n key

-- a site that doesn't continue has left the ring
abbrev pub is_out : Role → Bool
is_out (Going going) = false
is_out (Left cause) = true
is_out Stopped = true
is_out (Counting key) = false

-- a reader has handled the rows below its cursor, or has left the ring
pub record IsSeated (work : Work) (site : ℕ) (before now : Option RackTells) (seat : SeatData) : Type 0 where
  pub home : seat.reader.held ≡ false
  pub within : seat.reader.cursor ≤ seat.reader.ring.total
  pub left : seat.reader.left ≡ is_out seat.role
  pub is : IsServed work site seat.reader.ring seat.reader.cursor before now seat.role

-- in some run, a reader is seated so
pub record SomeSeated (now : Option RackTells) (seat : SeatData) : Type 0 where
  pub work : Work
  pub before : Option RackTells
  pub carries : Carries work.delivery seat.reader.ring
  pub is : IsSeated work seat.reader.number before now seat

-- ---- a turn

-- the number of rows that a reader has yet to take, unless it left
abbrev pub to_take : ReaderState → ℕ
to_take reader = if reader.left then 0 else reader.ring.total - reader.cursor

-- what a turn leaves of a reader's end, whoever holds it: it is the same end, and fewer rows are yet to be
-- taken where a row was known
pub record TakesOn (was is : ReaderState) : Type 0 where
  pub stays : is ≡ record was { cursor = is.cursor; left = is.left; seen = is.seen; loads = is.loads }
  pub fewer : to_take is ≤ to_take was
  pub gets_on : was.left ≡ false → was.cursor < was.seen → to_take is < to_take was

-- a turn of a reader at its end: in each run it remains seated
pub record Turned (old new : Option RackTells) (was is : SeatData) : Type 0 where
  pub end : TakesOn was.reader is.reader
  pub seated : (work : Work) (before : Option RackTells) → Carries work.delivery was.reader.ring
      → IsSeated work was.reader.number before old was → IsSeated work was.reader.number before new is

-- ---- all readers

-- each may take its turn
abbrev pub AreSomeSeated : List RackTells → List SeatData → Type 0
AreSomeSeated now seats = (i : ℕ) (seat : SeatData) → slice_get seats i ≡ Some seat
    → SomeSeated (slice_get now i) seat

-- ---- the first and the last

-- the sites of a plan before the first row, at these ends
abbrev pub site_seat : PlanData → List ℕ → ℕ × ReaderState → SeatData
site_seat plan out (site, reader) = record { reader = reader; role = Going (fresh_site plan out site) }

abbrev pub site_seats : PlanData → List ℕ → List ReaderState → List SeatData
site_seats plan out readers = map (site_seat plan out) (enumerate_from 0 readers)

-- followed by the key reader, if there is one, at the end at its index
abbrev pub fresh_seats : PlanData → List ℕ → List ReaderState → Option KeyReaderData → List SeatData
fresh_seats plan out readers None = site_seats plan out readers
fresh_seats plan out readers (Some key) =
    site_seats plan out (take (length plan.sites) readers)
    ++ map (λ reader. record { reader = reader; role = Counting key }) (drop (length plan.sites) readers)

-- the plates of a site from these groups
abbrev pub plates_in : List Group → ℕ → List PlateOf
plates_in groups site = flat_map group_plates (filter (λ group. has_site group site) groups)

-- the end of a site in this state after the last row; none where it ran out of memory, or is no site
abbrev pub end_of : PlanData → ℕ → Role → Option SiteEnd
end_of plan site (Going going) = Some (Finished (length (site_plates plan site)) (kept_rows plan site))
end_of plan site (Left cause) = Some (Ended.Left cause)
end_of plan site Stopped = None
end_of plan site (Counting key) = None

-- the ends of all sites
abbrev pub ends_in : PlanData → List SeatData → List (Option SiteEnd)
ends_in plan seats = map (λ pair. end_of plan pair.0 pair.1.role) (enumerate_from 0 seats)
