-- What a delivery of the plates that must be made leaves on the racks of its sites, by what each rack reports
-- before and after.
use Rattle.std.specs.Prelude.{◌≡◌, ◌⊎◌, ℕ, ◌+◌, ◌<◌, ◌≤◌, Bool, true, false, List, length, map, take, Option}
use Rattle.std.specs.Prelude.{Some, IfSome, slice_get, slice_index_or}
use Rattle.pr_base.specs.Count.{Rose}
use Rattle.pr_base.specs.Row.{row_size}
use Rattle.tif_packbits.specs.Frame.{AreFrames, framed_row}
use Rattle.ring_lanes.specs.declared.source.Source.{Source}
use Rattle.ring_lanes.specs.declared.source.Source.TheVariants.{Deck}
use Rattle.pr_rack.specs.declared.rack.RackCall.{RackCall}
use Rattle.pr_rack.specs.Rack.{Plate, with_row}
use Rattle.pr_rack.specs.Told.{RackTells}
use Rattle.plan_json.specs.Data.{PlanData, plate_width}
use Rattle.plan_rows.specs.Plates.{site_files}
use Rattle.plan_rows.specs.Rows.{row_places}
use Rattle.site_agent.specs.Given.{is_kept}
use Rattle.site_agent.specs.Job.{SiteJob}
use Rattle.site_agent.specs.Kept.{IsCauseAt}
use Rattle.site_agent.specs.Picked.{picked_files, picked_job}
use Rattle.site_agent.specs.Refused.{taken_at}
use Rattle.site_agent.specs.Stands.{OthersHold, grown, taken_below}
use Rattle.replate.specs.declared.remade.RemadeEnd.{RemadeEnd}
use Rattle.replate.specs.declared.remade.RemadeEnd.TheVariants.{Done, Left}
use Rattle.replate.specs.Picks.{PicksData, is_made}
use Rattle.replate.specs.Plates.{PlateAt, plates_of}

-- ---- what is to be made

-- whether the picks report that a plate must be made
abbrev pub is_picked : PicksData → PlateAt → Bool
is_picked picks plate = is_made picks plate.site plate.group plate.ink

-- whether each plate of a site must be made by the picks, in the order of the site's files
abbrev pub picked_bits : PicksData → PlanData → ℕ → List Bool
picked_bits picks plan site = map (is_picked picks) (plates_of plan site)

-- the task of a delivery: from all rows of a plan, with paths below the folder `out`, it makes the plates of
-- each site whose flags are true
pub record Making : Type 0 where
  pub plan : PlanData
  pub rows : List (List ℕ)
  pub out : List ℕ
  pub bits : ℕ → List Bool

-- the same, with the flags of the picks
abbrev pub by_picks : PlanData → List (List ℕ) → List ℕ → PicksData → Making
by_picks plan rows out picks = record {
  plan = plan;
  rows = rows;
  out = out;
  bits = λ site. picked_bits picks plan site;
}

-- the files that a site is to make, in order
abbrev pub files_for : Making → ℕ → List Plate
files_for making site = picked_files making.plan making.rows making.out site (making.bits site)

-- the job of a site that makes exactly these files
abbrev pub job_for : Making → ℕ → SiteJob
job_for making site = picked_job making.plan making.out site (making.bits site)

-- the rows below row n that a site takes for the plates that it is to make: upward, each once, from a deck
abbrev pub drawn_below : Making → ℕ → ℕ → List (ℕ × Source)
drawn_below making site n = taken_below (job_for making site) Deck n

-- all rows that it takes for them
abbrev pub drawn_for : Making → ℕ → List (ℕ × Source)
drawn_for making site = drawn_below making site (length (row_places making.plan))

-- all files of a site
abbrev pub all_files : Making → ℕ → List Plate
all_files making site = site_files making.plan making.rows making.out site

-- these are the frames of rows for a plan, as many as the plan has
pub record AreRowsOf (plan : PlanData) (frames : List (List ℕ)) : Type 0 where
  pub count : length frames ≡ length (row_places plan)
  pub are : AreFrames (row_size (plate_width plan)) (map framed_row frames) frames

-- ---- the end of a site

-- a site that made all its plates: its rack has exactly these files and their rows in addition, no slot of
-- it is begun, and its last failed call is that of before
pub record FitsDone (making : Making) (site : ℕ) (before now : RackTells) (made kept : ℕ) : Type 0 where
  pub made_are : made ≡ length (files_for making site)
  pub kept_are : made + kept ≡ length (all_files making site)
  pub finished : now.tells.finished ≡ grown (files_for making site) before.tells.finished
  pub taken : now.tells.taken ≡ grown (drawn_for making site) before.tells.taken
  pub begun : (slot : ℕ) → slot < 5 → slice_get now.tells.begun slot ≡ Some false
  pub missed : now.missed ≡ before.missed

-- a site that left: its rack has, in addition, the first `made` of these files, and took the rows of all of
-- them below the one at which it left. It left because a call failed, which is the last failed call, for one
-- of the other files. No further plate was begun
pub record FitsLeft (making : Making) (site : ℕ) (before now : RackTells) (made : ℕ) (path : List ℕ)
    : Type 0 where
  pub finished : now.tells.finished ≡ grown (take made (files_for making site)) before.tells.finished
  -- the file at which it left
  pub index : ℕ
  pub least : made ≤ index
  pub within : index < length (files_for making site)
  pub path_is : (d : Plate) → (slice_index_or (files_for making site) index d).0 ≡ path
  pub counted : Rose before.faults now.faults
  -- the call that failed
  pub last_call : RackCall
  pub missed : IfSome now.missed (λ last. last ≡ Some (last_call, path))
  -- the row at which it left, which is a row of that file
  pub row : ℕ
  pub cause : IsCauseAt (job_for making site) row
      (record { plates = made; row = row; call = last_call; path = path })
  pub taken : now.tells.taken ≡ taken_at last_call row Deck
      (grown (drawn_below making site row) before.tells.taken)
  -- the slots but that of the file hold the plates that are open at that row, and no other
  pub others : OthersHold (job_for making site) making.rows row now.tells

-- a site's end fits what its rack has in addition to before
abbrev pub FitsEnd : Making → ℕ → RackTells → RackTells → RemadeEnd → Type 0
FitsEnd making site before now (Done made kept) = FitsDone making site before now made kept
FitsEnd making site before now (Left made path) = FitsLeft making site before now made path

-- the site left
abbrev pub HasFailed : Making → ℕ → RackTells → RackTells → Type 0
HasFailed making site before now = (made : ℕ) × (path : List ℕ) × FitsLeft making site before now made path

-- the rows that a site takes for the plates that it is to make were taken up to this row: those below it, and
-- the row itself or not if it is one of them
abbrev pub AreTakenUpTo : Making → ℕ → ℕ → Option (List (ℕ × Source)) → Option (List (ℕ × Source)) → Type 0
AreTakenUpTo making site row before now =
    let below = grown (drawn_below making site row) before in
    (now ≡ below) ⊎ ((is_kept (job_for making site) row ≡ true) × (now ≡ with_row row Deck below))

-- a site of a delivery that ended out of memory: its rack has the first of these files in addition, and took
-- their rows up to some row. None of its calls failed, unless the site left
pub record FitsPart (making : Making) (site : ℕ) (before now : RackTells) : Type 0 where
  pub files : ℕ
  pub finished : now.tells.finished ≡ grown (take files (files_for making site)) before.tells.finished
  pub row : ℕ
  pub taken : AreTakenUpTo making site row before.tells.taken now.tells.taken
  pub calls : (now.missed ≡ before.missed) ⊎ HasFailed making site before now

-- ---- all sites

-- each site has an end, which fits what its rack has in addition to before
pub record RemadeFits (making : Making) (before now : List RackTells) (ends : List RemadeEnd) : Type 0 where
  pub count : length ends ≡ length making.plan.sites
  pub each : (site : ℕ) (old new : RackTells) (end : RemadeEnd) → slice_get before site ≡ Some old
      → slice_get now site ≡ Some new → slice_get ends site ≡ Some end → FitsEnd making site old new end

-- the delivery ended out of memory
pub record RemadePart (making : Making) (before now : List RackTells) : Type 0 where
  pub each : (site : ℕ) (old new : RackTells) → site < length making.plan.sites
      → slice_get before site ≡ Some old → slice_get now site ≡ Some new → FitsPart making site old new
