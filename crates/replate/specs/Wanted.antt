-- Which plates of a new job must be made for some site.
use Rattle.std.specs.Prelude.{◌≡◌, ℕ, ◌<◌, Bool, false, ◌&&◌, List, [], length, slice_index_or}
use Rattle.std.specs.List.{list_any, range_with_len}
use Rattle.pr_base.specs.declared.ink.Ink.{Ink}
use Rattle.pr_base.specs.Ink.{slot_of}
use Rattle.plan_json.specs.Data.{PlanData}
use Rattle.plan_rows.specs.declared.group.Group.{Group}
use Rattle.plan_rows.specs.Inks.{has_site}
use Rattle.replate.specs.Picks.{PicksData, is_made}
use Rattle.replate.specs.Plates.{group_at}

-- whether a site is of a group, and the picks report that the group's plate in an ink must be made for it
abbrev pub made_for : PicksData → Group → ℕ → Ink → ℕ → Bool
made_for picks group index ink site = has_site group site && is_made picks site index ink

-- whether it must be made for some site
unfoldable pub some_made : PicksData → Group → ℕ → Ink → Bool
some_made picks group index ink = list_any (made_for picks group index ink) (range_with_len 0 16)

-- for each of the first groups, whether the plate in each ink must be made for some site, by the ink's slot
pub record AreWanted (picks : PicksData) (plan : PlanData) (groups : ℕ) (flags : List (List Bool))
    : Type 0 where
  pub count_is : length flags ≡ groups
  pub each : (index : ℕ) (ink : Ink) → index < groups
      → slice_index_or (slice_index_or flags index []) (slot_of ink) false
      ≡ some_made picks (group_at plan index) index ink
