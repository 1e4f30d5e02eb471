-- The error diffusion of one ink of one page after the other.
use Rattle.std.specs.Prelude.{◌≡◌, ℕ, ◌+◌, ◌<◌, [], length, slice_index_or}
use Rattle.pr_base.specs.declared.ink.Ink.{Ink}
use Rattle.plan_json.specs.Plan.{IsPlan}
use Rattle.scr_diffuse.specs.Diffuser.{PageFront}
use Rattle.press_feed.specs.HeldRows.{HeldData}
use Rattle.press_job.specs.Job.{JobData}
use Rattle.press_job.specs.Printing.{printed_row}

-- an ink of a page, and how many of its rows were taken, in whole blocks
pub record ChainData : Type 0 where
  pub job : JobData
  pub ink : Ink
  pub page : ℕ
  pub count : ℕ

-- the same at the top of a page
abbrev pub at_top : ℕ → ChainData → ChainData
at_top page chain = record chain { page = page; count = 0 }

-- the same after eight more rows
abbrev pub behind_block : ChainData → ChainData
behind_block chain = record chain { count = chain.count + 8 }

-- the rows held are those that a chain takes next: eight of them, or the page's last ones
pub record IsNextFor (held : HeldData) (chain : ChainData) : Type 0 where
  pub page_is : held.page ≡ chain.page
  pub first_is : held.first ≡ chain.count
  pub some : held.first < held.job.plan.page_height
  pub whole : held.count < 8 → held.first + held.count ≡ held.job.plan.page_height

-- ---- the invariant

-- the diffuser of an ink of a page took this many rows: those of the page, and any others after its last one
pub record IsAhead (job : JobData) (page : ℕ) (ink : Ink) (count : ℕ) (front : PageFront) : Type 0 where
  pub width_is : front.width ≡ job.plan.page_width
  pub count_is : length front.rows ≡ count
  pub rows_are : (y : ℕ) → y < count → y < job.plan.page_height
      → slice_index_or front.rows y [] ≡ printed_row job.plan job.files page ink y

-- the diffuser took these rows of the page
pub record IsChain (job : JobData) (page : ℕ) (ink : Ink) (count : ℕ) (front : PageFront) : Type 0 where
  pub plan_is : IsPlan job.plan
  pub ahead : IsAhead job page ink count front
