-- The order of all rows of a plan: section, pair, group, y, ink.
use Rattle.std.specs.Prelude.{ℕ, ◌+◌, ◌*◌, ◌≡◌, ◌<◌, ◌≤◌, Bool, false, List, ◌++◌, length, map, sum_by, take}
use Rattle.std.specs.Prelude.{slice_get}
use Rattle.std.specs.List.{flat_map, enumerate_from, range_with_len}
use Rattle.std.specs.Option.{option_map_or}
use Rattle.pr_base.specs.declared.ink.Ink.{Ink}
use Rattle.plan_json.specs.Data.{PlanData, plate_height}
use Rattle.pr_base.specs.Ink.{slot_of}
use Rattle.plan_rows.specs.declared.group.Group.{Group}
use Rattle.plan_rows.specs.declared.place.RowPlace.{RowPlace}
use Rattle.plan_rows.specs.Inks.{inks_of, ink_count, ink_place, has_site}
use Rattle.plan_rows.specs.Groups.{groups_of, numbered, row_count}
use Rattle.pr_base.specs.Number.{IsWithin}

-- what contracts see of a row plan
pub record RowPlanData : Type 0 where
  pub groups : List Group
  -- the number of rows of each plate
  pub height : ℕ

-- the row plan of a plan
abbrev pub rows_of : PlanData → RowPlanData
rows_of plan = record { groups = groups_of plan; height = plate_height plan }

-- the place of a row in the group with this index
abbrev pub place_of : ℕ → ℕ → Ink → RowPlace
place_of group y ink = record { group = group; y = y; ink = ink; slot = slot_of ink }

-- the rows of a group: y by y, and for each y ink by ink
abbrev pub group_rows : ℕ → ℕ × Group → List RowPlace
group_rows height (index, group) =
    flat_map (λ y. map (place_of index y) (inks_of group)) (range_with_len 0 height)

-- the rows of all groups
unfoldable pub places_in : RowPlanData → List RowPlace
places_in rows = flat_map (group_rows rows.height) (enumerate_from 0 rows.groups)

abbrev pub row_places : PlanData → List RowPlace
row_places plan = places_in (rows_of plan)

-- the number of rows of all groups
abbrev pub row_total : RowPlanData → ℕ
row_total rows = sum_by (row_count rows.height) rows.groups

-- the number of rows of the groups before the one with this index
abbrev pub rows_before : RowPlanData → ℕ → ℕ
rows_before rows index = sum_by (row_count rows.height) (take index rows.groups)

-- row n is in the group with this index
pub record IsGroupAt (rows : RowPlanData) (n index : ℕ) : Type 0 where
  pub within : index < length rows.groups
  pub begins : rows_before rows index ≤ n
  pub ends : n < rows_before rows (index + 1)

-- the groups are numbered from row 0, and the row plan is no larger than that of the largest plan: 8 sections
-- of 64 pairs for 16 sites
pub record IsRowPlan (whole : ℕ) (rows : RowPlanData) : Type 0 where
  pub in_order : rows.groups ≡ numbered rows.height 0 rows.groups
  pub total : whole ≡ row_total rows
  pub height : IsWithin 1 65535 rows.height
  pub count : length rows.groups ≤ 8192

-- a row plan with groups appended, and the numbers of their first rows
abbrev pub added : RowPlanData → List Group → RowPlanData
added rows groups = record { groups = numbered rows.height 0 (rows.groups ++ groups); height = rows.height }

-- whether a site belongs to the group with this index
abbrev pub is_of : List Group → ℕ → ℕ → Bool
is_of groups site index = option_map_or (λ group. has_site group site) (slice_get groups index) false

-- whether a site keeps row n: it belongs to the row's group
abbrev pub keeps_in : RowPlanData → ℕ → ℕ → Bool
keeps_in rows site n =
    option_map_or (λ place. is_of rows.groups site place.group) (slice_get (places_in rows) n) false

abbrev pub keeps_row : PlanData → ℕ → ℕ → Bool
keeps_row plan site n = keeps_in (rows_of plan) site n

-- the number of row y of the plate of a group in an ink
abbrev pub row_number : Group → ℕ → Ink → ℕ
row_number group y ink = group.first + y * ink_count group + ink_place group ink
