-- What the result of a turn means, and the rows that a site takes from a ring.
use Rattle.std.specs.Prelude.{◌≡◌, ℕ, ◌+◌, ◌<◌, ◌≤◌, true, false, List, length, map}
use Rattle.ring_rule.specs.declared.view.RingNumbers.{RingNumbers}
use Rattle.ring_lanes.specs.declared.source.Source.{Source}
use Rattle.ring_lanes.specs.Reader.{ReaderState, source_of}
use Rattle.pr_base.specs.Row.{row_size}
use Rattle.tif_packbits.specs.Frame.{AreFrames, framed_row}
use Rattle.pr_rack.specs.Told.{RackTells, Tells}
use Rattle.site_agent.specs.declared.kept.LeftCause.{LeftCause}
use Rattle.site_agent.specs.declared.turn_end.TurnEnd.{TurnEnd}
use Rattle.site_agent.specs.declared.turn_end.TurnEnd.TheVariants.{Waiting, Finished, Left, Memory}
use Rattle.site_agent.specs.Given.{is_kept}
use Rattle.site_agent.specs.Going.{IsGoing}
use Rattle.site_agent.specs.Job.{SiteJob}
use Rattle.site_agent.specs.Kept.{TakenOnce}
use Rattle.site_agent.specs.Refused.{taken_at}
use Rattle.site_agent.specs.Site.{SiteData}
use Rattle.site_agent.specs.Stands.{OthersHold, files_below, grown, taken_below}

-- P if the site continues
abbrev pub OnGoing : TurnEnd → Type 0 → Type 0
OnGoing (Waiting head) P = P
OnGoing Finished P = P
OnGoing (Left cause) P = Unit {0}
OnGoing Memory P = Unit {0}

-- P if the site ended
abbrev pub OnEnd : TurnEnd → Type 0 → Type 0
OnEnd (Waiting head) P = Unit {0}
OnEnd Finished P = Unit {0}
OnEnd (Left cause) P = P
OnEnd Memory P = P

-- P of the head if the result is Waiting
abbrev pub IfWaiting : TurnEnd → (ℕ → Type 0) → Type 0
IfWaiting (Waiting head) P = P head
IfWaiting Finished P = Unit {0}
IfWaiting (Left cause) P = Unit {0}
IfWaiting Memory P = Unit {0}

-- P if the result is Finished
abbrev pub OnFinished : TurnEnd → Type 0 → Type 0
OnFinished (Waiting head) P = Unit {0}
OnFinished Finished P = P
OnFinished (Left cause) P = Unit {0}
OnFinished Memory P = Unit {0}

-- P of the cause if the result is Left
abbrev pub IfLeft : TurnEnd → (LeftCause → Type 0) → Type 0
IfLeft (Waiting head) P = Unit {0}
IfLeft Finished P = Unit {0}
IfLeft (Left cause) P = P cause
IfLeft Memory P = Unit {0}

-- P if the result is Memory
abbrev pub OnMemory : TurnEnd → Type 0 → Type 0
OnMemory (Waiting head) P = Unit {0}
OnMemory Finished P = Unit {0}
OnMemory (Left cause) P = Unit {0}
OnMemory Memory P = P

-- how many loads of a turn with this patience found no new row: every other load found at least one. Waiting
-- is returned at the last such load that the patience allows, every other result before it
abbrev pub WaitsNoMore : ℕ → ReaderState → ReaderState → TurnEnd → Type 0
WaitsNoMore patience old new (Waiting head) = new.loads + old.seen ≤ old.loads + patience + new.seen
WaitsNoMore patience old new Finished = new.loads + old.seen < old.loads + patience + new.seen
WaitsNoMore patience old new (Left cause) = new.loads + old.seen < old.loads + patience + new.seen
WaitsNoMore patience old new Memory = new.loads + old.seen < old.loads + patience + new.seen

-- the rows of a ring are frames of rows for a job, as many as the job has
pub record AreRowsFor (job : SiteJob) (ring : RingNumbers) : Type 0 where
  pub total : ring.total ≡ job.total
  pub count : length ring.rows ≡ ring.total
  pub frames : AreFrames (row_size job.width) (map framed_row ring.rows) ring.rows

-- a site continues, with the rows that this reader takes
abbrev pub IsGoingBy : ReaderState → Tells → Tells → SiteData → Type 0
IsGoingBy reader before now site =
    IsGoing (map framed_row reader.ring.rows) (source_of reader) before now site

-- the site continues with the row at this cursor
pub record GoesOnTo (old new : SiteData) (cursor : ℕ) : Type 0 where
  pub job : new.job ≡ old.job
  pub next : new.next ≡ cursor
  pub going : new.ended ≡ false

-- a site dropped out for this cause, and its rack changed from `before` to `now`: the plates whose last row
-- is below the cause's row are finished, and the site's rows below it were taken, with that row itself only
-- if the call was to finish its plate; no other plate was begun or went on
pub record LeavesAt (job : SiteJob) (rows : List (List ℕ)) (source : Source) (before now : Tells)
    (cause : LeftCause) : Type 0 where
  pub finished : now.finished ≡ grown (files_below job rows cause.row) before.finished
  pub taken : now.taken
      ≡ taken_at cause.call cause.row source (grown (taken_below job source cause.row) before.taken)
  pub others : OthersHold job rows cause.row now

-- the rack of a site ran out of memory for its row n: the plates whose last row is below it are finished, and
-- the site's rows below it were taken, and that row either once or not at all; no other plate was begun or
-- went on
pub record StopsAt (job : SiteJob) (rows : List (List ℕ)) (source : Source) (n : ℕ) (before now : Tells)
    : Type 0 where
  pub kept : is_kept job n ≡ true
  pub finished : now.finished ≡ grown (files_below job rows n) before.finished
  pub taken : TakenOnce n source (grown (taken_below job source n) before.taken) now.taken
  pub others : OthersHold job rows n now

-- ---- for every run that a site takes part in, whose rows this reader takes

-- the site is still taking part
abbrev pub GoesOnBy : ReaderState → SiteData → SiteData → RackTells → RackTells → Type 0
GoesOnBy reader site site' old new = (before : Tells) → IsGoingBy reader before old.tells site
    → IsGoingBy reader before new.tells site'

-- the site dropped out for this cause
abbrev pub LeavesBy : ReaderState → SiteData → RackTells → RackTells → LeftCause → Type 0
LeavesBy reader site old new cause = (before : Tells) → IsGoingBy reader before old.tells site
    → LeavesAt site.job (map framed_row reader.ring.rows) (source_of reader) before new.tells cause

-- the rack ran out of memory for the site's row n
abbrev pub StopsBy : ReaderState → SiteData → RackTells → RackTells → ℕ → Type 0
StopsBy reader site old new n = (before : Tells) → IsGoingBy reader before old.tells site
    → StopsAt site.job (map framed_row reader.ring.rows) (source_of reader) n before new.tells
