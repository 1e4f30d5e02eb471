-- One ink of a side: how it is screened, and its rows.
use Rattle.std.specs.Prelude.{◌≡◌, ℕ, ◌+◌, ◌≤◌, true, if◌then◌else◌, Option, Some, None}
use Rattle.std.specs.Option.{ForSome, option_map}
use Rattle.plan_rows.specs.Inks.{has_ink}
use Rattle.plan_rows.specs.declared.group.Group.{Group}
use Rattle.press_feed.specs.ChainRows.{ChainData, IsNextFor, at_top, behind_block}
use Rattle.press_feed.specs.Drawn.{DrawnData, before_row, behind_rows}
use Rattle.press_feed.specs.HeldRows.{HeldData}
use Rattle.press_feed.specs.Screener.{IsScreener}
use Rattle.press_feed.specs.declared.drawer.Drawer.{Drawer}
use Rattle.press_feed.specs.declared.drawer.Drawer.TheVariants.{Tiled, Diffused}
use Rattle.press_feed.specs.declared.screener.Screener.{Screener}
use Rattle.press_feed.specs.declared.screener.Screener.TheVariants.{Tile, Diffusion}

-- the rows that are drawn, and what the chain took, if the ink is diffused
pub record InkData : Type 0 where
  pub drawn : DrawnData
  pub chain : Option ChainData

abbrev pub chain_of : Drawer → Option ChainData
chain_of (Tiled tile) = None
chain_of (Diffused chain) = Some chain

-- how it screens
abbrev pub screener_of : Drawer → Screener
screener_of (Tiled tile) = Tile tile
screener_of (Diffused chain) = Diffusion

-- ---- where the rows go on

-- the chain, if there is one, took this many rows of this page
pub record IsAtRow (page count : ℕ) (chain : Option ChainData) : Type 0 where
  pub page_is : ForSome chain (λ c. c.page ≡ page)
  pub count_is : ForSome chain (λ c. c.count ≡ count)

-- the same of an ink that a group prints; the others may be anywhere
pub record IsReady (group : Group) (page count : ℕ) (ink : InkData) : Type 0 where
  pub at : has_ink group ink.drawn.ink ≡ true → IsAtRow page count ink.chain

-- the rows held come next for the chain of an ink that a group prints
pub record IsNextChain (group : Group) (held : HeldData) (ink : InkData) : Type 0 where
  pub job_is : held.job ≡ ink.drawn.job
  pub next : has_ink group ink.drawn.ink ≡ true → ForSome ink.chain (IsNextFor held)

-- and behind its drawn rows
pub record IsNextIn (group : Group) (held : HeldData) (ink : InkData) : Type 0 where
  pub chain_is : IsNextChain group held ink
  pub page_is : has_ink group ink.drawn.ink ≡ true → held.page ≡ ink.drawn.page
  pub row_is : has_ink group ink.drawn.ink ≡ true → held.first ≡ ink.drawn.first + ink.drawn.count
  pub room : has_ink group ink.drawn.ink ≡ true → ink.drawn.count + held.count ≤ ink.drawn.room

-- ---- the steps of an ink that a group prints

-- its chain goes to the top of a page
abbrev pub restarted : Group → ℕ → InkData → InkData
restarted group page ink = (if has_ink group ink.drawn.ink
    then record ink { chain = option_map (at_top page) ink.chain }
    else ink)

-- its chain takes a block
abbrev pub passed : Group → InkData → InkData
passed group ink = (if has_ink group ink.drawn.ink
    then record ink { chain = option_map behind_block ink.chain }
    else ink)

-- its drawn rows begin anew
abbrev pub begun : Group → ℕ → ℕ → InkData → InkData
begun group page first ink = (if has_ink group ink.drawn.ink
    then record ink { drawn = before_row page first ink.drawn }
    else ink)

-- `count` rows of a block are drawn
abbrev pub drawn_on : Group → ℕ → InkData → InkData
drawn_on group count ink = (if has_ink group ink.drawn.ink
    then record { drawn = behind_rows count ink.drawn; chain = option_map behind_block ink.chain }
    else ink)

-- ---- the invariant

-- the drawer screens as the plan says, and a chain is of the job and the ink of the rows
pub record IsInkRows (drawer : Drawer) (drawn : DrawnData) : Type 0 where
  pub screens : IsScreener drawn.job.plan drawn.ink (screener_of drawer)
  pub job_is : ForSome (chain_of drawer) (λ chain. chain.job ≡ drawn.job)
  pub ink_is : ForSome (chain_of drawer) (λ chain. chain.ink ≡ drawn.ink)
