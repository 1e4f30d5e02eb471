-- The effect of one row at a reader's cursor on a site, its reader and its rack: the contract of a private
-- call.
use Rattle.std.specs.Prelude.{◌≡◌, ℕ, ◌≤◌, true, false, Some, IfSome, Result, Ok, Err}
use Rattle.pr_base.specs.Count.{Rose}
use Rattle.ring_lanes.specs.declared.answer.NotYet.{NotYet}
use Rattle.ring_lanes.specs.Reader.{ReaderState, Closes, GoesOver, IsNotYet}
use Rattle.pr_rack.specs.Told.{RackTells}
use Rattle.site_agent.specs.declared.kept.Kept.{Kept}
use Rattle.site_agent.specs.declared.kept.Kept.TheVariants.{Done, Left, Memory}
use Rattle.site_agent.specs.declared.kept.LeftCause.{LeftCause}
use Rattle.site_agent.specs.Kept.{IsCauseAt}
use Rattle.site_agent.specs.Site.{SiteData}
use Rattle.site_agent.specs.Stands.{AreAsLong, AreBegun}
use Rattle.site_agent.specs.Turn.{AreRowsFor, GoesOnBy, LeavesBy, StopsBy}

-- a site, its reader, and what contracts see of its rack
pub record Stage : Type 0 where
  pub site : SiteData
  pub reader : ReaderState
  pub told : RackTells

abbrev pub stage : SiteData → ReaderState → RackTells → Stage
stage site reader told = record { site = site; reader = reader; told = told }

-- the site may take the row at the reader's cursor
pub record IsReady (s : Stage) : Type 0 where
  pub going : s.site.ended ≡ false
  pub joined : s.reader.left ≡ false
  pub home : s.reader.held ≡ false
  pub next : s.reader.cursor ≡ s.site.next
  pub rows : AreRowsFor s.site.job s.reader.ring
  pub begun : AreBegun s.site.job s.site.next s.told.tells.begun
  pub working : IfSome s.told.tells.working (AreAsLong s.site.job s.site.next s.site.counts)

-- the row was kept
pub record DrawsOn (old new : Stage) : Type 0 where
  pub closes : Closes old.reader new.reader
  pub ready : IsReady new
  pub job : new.site.job ≡ old.site.job
  pub stands : GoesOnBy old.reader old.site new.site old.told new.told
  pub missed : new.told.missed ≡ old.told.missed
  pub faults : old.told.faults ≤ new.told.faults

-- a call of the rack failed
pub record DrawsLast (old new : Stage) (cause : LeftCause) : Type 0 where
  pub closes : Closes old.reader new.reader
  pub is : IsCauseAt old.site.job old.reader.cursor cause
  pub stands : LeavesBy old.reader old.site old.told new.told cause
  pub missed : IfSome new.told.missed (λ last. last ≡ Some (cause.call, cause.path))
  pub counted : Rose old.told.faults new.told.faults
  pub faults : old.told.faults ≤ new.told.faults
  pub ended : new.site.ended ≡ true

-- a call of the rack ran out of memory
pub record DrawsNone (old new : Stage) : Type 0 where
  pub closes : Closes old.reader new.reader
  pub stands : StopsBy old.reader old.site old.told new.told old.reader.cursor
  pub missed : new.told.missed ≡ old.told.missed
  pub faults : old.told.faults ≤ new.told.faults
  pub ended : new.site.ended ≡ true

-- the row was not yet published
pub record Awaits (old new : Stage) (answer : NotYet) : Type 0 where
  pub not_yet : IsNotYet old.reader new.reader answer
  pub behind : old.reader.seen ≤ old.reader.cursor
  pub site : new.site ≡ old.site
  pub told : new.told ≡ old.told

-- one of these, by the result
abbrev pub Draws : Stage → Stage → Result Kept NotYet → Type 0
Draws old new (Ok Done) = DrawsOn old new
Draws old new (Ok (Left cause)) = DrawsLast old new cause
Draws old new (Ok Memory) = DrawsNone old new
Draws old new (Err answer) = Awaits old new answer

-- ---- a run of rows

-- the rows from the first cursor up to this one were kept, with `waits` waits between them
pub record Goes (first now : Stage) (waits : ℕ) : Type 0 where
  pub ready : IsReady now
  pub over : GoesOver first.reader now.reader waits
  pub job : now.site.job ≡ first.site.job
  pub stands : GoesOnBy first.reader first.site now.site first.told now.told
  pub missed : now.told.missed ≡ first.told.missed
  pub faults : first.told.faults ≤ now.told.faults
