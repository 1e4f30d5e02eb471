-- Which plates a new job must make, compared with an old job, and which old plates it drops.
use Rattle.std.specs.Prelude.{◌≡◌, ℕ, Bool, false, not, ◌&&◌, List, [], filter, slice_index_or}
use Rattle.pr_base.specs.declared.ink.Ink.{Ink}
use Rattle.plan_json.specs.Data.{PlanData}
use Rattle.pr_base.specs.Ink.{slot_of}
use Rattle.replate.specs.Inputs.{JobData}
use Rattle.replate.specs.Plates.{PlateAt, IsPlateOf, group_at, all_plates, has_path, path_below}
use Rattle.replate.specs.Recipe.{Recipe, recipe_of}

-- the recipe of a plate of a job
abbrev pub recipe_at : JobData → PlateAt → Recipe
recipe_at job plate =
    let group = group_at job.plan plate.group in
    recipe_of job.plan job.files group.left group.right plate.ink

-- a new plate must be made: no old plate of its path has its recipe
abbrev pub MustMake : JobData → JobData → PlateAt → Type 0
MustMake before after new =
    (old : PlateAt) → IsPlateOf before.plan old → path_below before.plan old ≡ path_below after.plan new
    → recipe_at before old ≡ recipe_at after new → ⊥

-- whether a new plan has no plate of the path of an old plate
abbrev pub is_dropped : PlanData → PlanData → PlateAt → Bool
is_dropped before after old = not (has_path after (path_below before old))

-- the old plates whose path no new plate has, by old site and then in the order of its files
unfoldable pub dropped_of : PlanData → PlanData → List PlateAt
dropped_of before after = filter (is_dropped before after) (all_plates before)

-- ---- picks

-- the contents of picks in contracts
pub record PicksData : Type 0 where
  -- for each ink, whether both plans have the same edition and settings, and screen the ink alike
  pub alike : List Bool
  -- for each group of the new plan and each site, whether the old job has the same two pages at its place
  pub kept : List (List Bool)
  pub dropped : List PlateAt

-- whether the picks report that a plate must be made
abbrev pub is_made : PicksData → ℕ → ℕ → Ink → Bool
is_made picks site group ink =
    let stays = slice_index_or (slice_index_or picks.kept group []) site false in
    not (slice_index_or picks.alike (slot_of ink) false && stays)
