-- The plates of all sites in the order in which they are loaded.
use Rattle.std.specs.Prelude.{ℕ, List, length, map, filter}
use Rattle.std.specs.List.{flat_map, range_with_len}
use Rattle.plan_json.specs.Data.{PlanData}
use Rattle.plan_rows.specs.Groups.{groups_of}
use Rattle.plan_rows.specs.Inks.{has_site}
use Rattle.plan_rows.specs.Plates.{PlateOf, group_plates}

-- a plate of a site
abbrev pub SitePlate : Type 0
SitePlate = ℕ × PlateOf

-- one plate for each site that has it, in the order of the sites
abbrev pub plate_sites : PlanData → PlateOf → List SitePlate
plate_sites plan plate = map (λ site. (site, plate)) (filter (has_site plate.0) (range_with_len 0
    (length plan.sites)))

-- all plates of all sites: group by group, ink by ink, and site by site
unfoldable pub plates_in_order : PlanData → List SitePlate
plates_in_order plan = flat_map (plate_sites plan) (flat_map group_plates (groups_of plan))
