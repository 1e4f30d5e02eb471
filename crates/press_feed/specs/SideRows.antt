-- The rows of one side's pages in some inks.
use Rattle.std.specs.Prelude.{◌≡◌, ℕ, ◌+◌, ◌≤◌, true, if◌then◌else◌, List, length, map}
use Rattle.std.specs.List.{All}
use Rattle.pr_base.specs.Ink.{all_inks}
use Rattle.plan_rows.specs.Inks.{has_ink}
use Rattle.plan_rows.specs.declared.group.Group.{Group}
use Rattle.press_job.specs.Job.{JobData}
use Rattle.press_feed.specs.declared.side.Side.{Side}
use Rattle.press_feed.specs.Drawn.{DrawnData, behind_rows}
use Rattle.press_feed.specs.HeldRows.{HeldData}
use Rattle.press_feed.specs.InkRows.{InkData, IsReady}
use Rattle.press_feed.specs.Sides.{page_on}

-- a side of the plates of a job, the rows of its page that are held, and the rows in each ink
pub record SideRowsData : Type 0 where
  pub job : JobData
  pub side : Side
  pub held : HeldData
  pub inks : List InkData

-- the drawn rows of each ink
abbrev pub drawns : List InkData → List DrawnData
drawns inks = map (λ ink. ink.drawn) inks

-- each ink has room for this many rows
abbrev pub HaveRoom : ℕ → List InkData → Type 0
HaveRoom count inks = All (λ ink. count ≤ ink.drawn.room) inks

-- the five inks, each at its slot, with room for the rows that are drawn at once
pub record AreInAll (inks : List InkData) : Type 0 where
  pub inks_are : map (λ drawn. drawn.ink) (drawns inks) ≡ all_inks
  pub room : HaveRoom 64 inks

-- the drawn rows of an ink after these rows of the page of a group, which are drawn in each of its inks
abbrev pub drawn_for : Group → Side → ℕ → ℕ → DrawnData → DrawnData
drawn_for group side first count drawn = (if has_ink group drawn.ink
    then record drawn { page = page_on side group; first = first; count = count }
    else drawn)

-- the drawn rows of an ink after further rows, in each ink of a group
abbrev pub drawn_behind : Group → ℕ → DrawnData → DrawnData
drawn_behind group count drawn = (if has_ink group drawn.ink then behind_rows count drawn else drawn)

-- the next row that a side makes
abbrev pub next_of : SideRowsData → ℕ
next_of rows = rows.held.first + rows.held.count

-- row `first` of the page of a group is the next one of a side, and of the chain of each ink of the group
pub record IsAtGroup (group : Group) (first : ℕ) (rows : SideRowsData) : Type 0 where
  pub page_is : rows.held.page ≡ page_on rows.side group
  pub next_is : rows.held.first + rows.held.count ≡ first
  pub chains : All (IsReady group rows.held.page first) rows.inks

-- the drawn rows of an ink that a group prints end before row `next` of a page, with room for `count` more
pub record IsOpenFor (group : Group) (page next count : ℕ) (drawn : DrawnData) : Type 0 where
  pub page_is : has_ink group drawn.ink ≡ true → drawn.page ≡ page
  pub row_is : has_ink group drawn.ink ≡ true → drawn.first + drawn.count ≡ next
  pub room : has_ink group drawn.ink ≡ true → drawn.count + count ≤ drawn.room

-- the same side of the same job
pub record IsSameSide (old new : SideRowsData) : Type 0 where
  pub job_is : new.job ≡ old.job
  pub side_is : new.side ≡ old.side

-- the same side, of which row `first` of the page of a group is next, with the drawn rows that it had
pub record IsMovedTo (group : Group) (first : ℕ) (old new : SideRowsData) : Type 0 where
  pub at : IsAtGroup group first new
  pub same : IsSameSide old new
  pub drawn : drawns new.inks ≡ drawns old.inks

-- the same side with other drawn rows in its inks, in as much room
pub record IsExchanged (old new : SideRowsData) : Type 0 where
  pub same : IsSameSide old new
  pub count : length new.inks ≡ length old.inks
  pub room : (height : ℕ) → HaveRoom height old.inks → HaveRoom height new.inks

-- ---- the invariant

-- the drawn rows belong to a side of a job
pub record IsDrawnOf (job : JobData) (side : Side) (drawn : DrawnData) : Type 0 where
  pub job_is : drawn.job ≡ job
  pub side_is : drawn.side ≡ side

-- and so do those held, and those of each ink
pub record IsSideRows (job : JobData) (side : Side) (held : HeldData) (inks : List InkData) : Type 0 where
  pub job_is : held.job ≡ job
  pub each : All (IsDrawnOf job side) (drawns inks)
