-- The plates of a plan, each identified by site, index of the group and ink, and their paths below any
-- folder.
use Rattle.std.specs.Prelude.{◌<◌, ℕ, Bool, false, IsTrue, if◌then◌else◌, List, [], map, length}
use Rattle.std.specs.Prelude.{slice_index_or}
use Rattle.std.specs.List.{enumerate_from, flat_map, list_any, range_with_len}
use Rattle.std.specs.Str.{bytes_eq}
use Rattle.pr_base.specs.declared.ink.Ink.{Ink}
use Rattle.plan_json.specs.Data.{PlanData}
use Rattle.plan_rows.specs.declared.group.Group.{Group}
use Rattle.plan_rows.specs.Inks.{has_ink, has_site, inks_of}
use Rattle.plan_rows.specs.Groups.{groups_of}
use Rattle.plan_rows.specs.Paths.{path_of}
use Rattle.replate.specs.declared.old_plate.OldPlate.{OldPlate}

-- a plate: its site, the index of its group, and its ink
abbrev pub PlateAt : Type 0
PlateAt = OldPlate

-- the group with this index in a list of groups
abbrev pub group_in : List Group → ℕ → Group
group_in groups index = slice_index_or groups index (record {
  section = 0;
  pair = 0;
  left = 0;
  right = 0;
  sites = 0;
  colour = false;
  spot = false;
  first = 0;
})

-- the group of a plan with this index
abbrev pub group_at : PlanData → ℕ → Group
group_at plan index = group_in (groups_of plan) index

-- the plan has this plate
pub record IsPlateOf (plan : PlanData) (plate : PlateAt) : Type 0 where
  pub site : plate.site < length plan.sites
  pub group : plate.group < length (groups_of plan)
  pub of_site : IsTrue (has_site (group_at plan plate.group) plate.site)
  pub of_ink : IsTrue (has_ink (group_at plan plate.group) plate.ink)

-- ---- in order

-- the plates in these inks of the group with this index at a site
abbrev pub ink_plates : ℕ → ℕ → List Ink → List PlateAt
ink_plates site index inks = map (λ ink. record { site = site; group = index; ink = ink }) inks

-- the plates of a group at a site, ink by ink
abbrev pub plates_in : ℕ → ℕ × Group → List PlateAt
plates_in site (index, group) = if has_site group site then ink_plates site index (inks_of group) else []

-- the plates of a site, in the order of its files
unfoldable pub plates_of : PlanData → ℕ → List PlateAt
plates_of plan site = flat_map (plates_in site) (enumerate_from 0 (groups_of plan))

-- all plates, site by site
unfoldable pub all_plates : PlanData → List PlateAt
all_plates plan = flat_map (plates_of plan) (range_with_len 0 (length plan.sites))

-- ---- paths

-- the path of a plate after the name of a folder; it is the same for every folder
abbrev pub path_below : PlanData → PlateAt → List ℕ
path_below plan plate = path_of plan [] plate.site (group_at plan plate.group) plate.ink

-- whether a plan has a plate of this path
unfoldable pub has_path : PlanData → List ℕ → Bool
has_path plan path = list_any (λ plate. bytes_eq (path_below plan plate) path) (all_plates plan)
