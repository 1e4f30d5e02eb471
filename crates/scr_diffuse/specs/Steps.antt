-- The steps that diffuse eight rows at once. In each step row k is three columns behind the row above it.
use Rattle.std.specs.Prelude.{◌≡◌, ℕ, ◌+◌, ◌-◌, ◌*◌, ◌<◌, ◌≤◌, ℤ, pos, ◌≤ℤ◌, List, [], length}
use Rattle.std.specs.Prelude.{slice_index, slice_index_or}
use Rattle.scr_diffuse.specs.declared.block.Wavefront.{Wavefront}
use Rattle.scr_diffuse.specs.Block.{bit_of, block_left, block_v}
use Rattle.scr_diffuse.specs.Diffusion.{IsError, prints}
use Rattle.scr_diffuse.specs.Passes.{number_at}
use Rattle.scr_diffuse.specs.Weave.{value_behind}

-- eight lanes, each of them an error
pub record AreErrors (numbers : List ℤ) : Type 0 where
  pub eight : length numbers ≡ 8
  pub each : (k : ℕ) → k < 8 → IsError (number_at numbers k)

-- eight lanes, each of them an ink value
pub record AreValues (numbers : List ℤ) : Type 0 where
  pub eight : length numbers ≡ 8
  pub least : (k : ℕ) → k < 8 → pos 0 ≤ℤ number_at numbers k
  pub most : (k : ℕ) → k < 8 → number_at numbers k ≤ℤ pos 255

-- each lane holds an error
pub record HasErrors (wave : Wavefront) : Type 0 where
  pub left : AreErrors wave.left
  pub older : AreErrors wave.older
  pub above : AreErrors wave.above
  pub above_left : AreErrors wave.above_left

-- what makes a step safe: places for what it reads and writes, and errors that are small enough for its sums
pub record MayStep (step : ℕ) (wave : Wavefront) (errors : List ℤ) (dots columns : List ℕ) : Type 0 where
  pub ahead : step + 24 ≤ length errors
  pub place : step < length dots
  pub filled : 8 * step + 8 ≤ length columns
  pub lanes : HasErrors wave
  pub small : (x : ℕ) → IsError (number_at errors x)

-- the values of a step, interleaved: 0 for each row that has no column in it
abbrev pub HasValues : List (List ℕ) → ℕ → List ℕ → Type 0
HasValues rows step columns =
    (k : ℕ) → k < 8
    → slice_index columns (8 * step + k) ≡ value_behind (slice_index_or rows k []) step (3 * k)

-- all that the steps before this one leave, except for the errors that the last of them made: the older
-- errors beside and above the next pixels, the errors of the last row as far as they were made, and those of
-- the row above from there on, and the pixels. `above` gives the errors of the row above the block, as
-- `block_left` takes them
pub record IsPast (above : ℕ → ℤ) (rows : List (List ℕ)) (step : ℕ) (wave : Wavefront) (errors : List ℤ)
    (dots : List ℕ) : Type 0 where
  pub margin : above 0 ≡ pos 0
  pub older_is : (k : ℕ) → k < 8 → number_at wave.older k ≡ block_left above rows (k + 1) (step - 1 - 3 * k)
  pub above_is : (k : ℕ) → k < 8 → number_at wave.above k ≡ block_left above rows k (step + 1 - 3 * k)
  pub corner_is : (k : ℕ) → k < 8 → number_at wave.above_left k ≡ block_left above rows k (step - 3 * k)
  pub made : (x : ℕ) → x < step → number_at errors x ≡ block_left above rows 8 (x - 21)
  pub rest : (x : ℕ) → step < x → number_at errors x ≡ above (x - 21)
  pub dots_are : (k x : ℕ) → k < 8 → x < length (slice_index_or rows k []) → x + 3 * k < step
      → bit_of (slice_index dots (x + 3 * k)) k ≡ prints (block_v above rows k x)

-- the same, and the errors that the last step made: one in each row, of which that of the last row is also in
-- the list; 0 outside a row
pub record IsReached (above : ℕ → ℤ) (rows : List (List ℕ)) (step : ℕ) (wave : Wavefront) (errors : List ℤ)
    (dots : List ℕ) : Type 0 where
  pub past : IsPast above rows step wave errors dots
  pub left_is : (k : ℕ) → k < 8 → number_at wave.left k ≡ block_left above rows (k + 1) (step - 3 * k)
  pub last_is : number_at errors step ≡ block_left above rows 8 (step - 21)
