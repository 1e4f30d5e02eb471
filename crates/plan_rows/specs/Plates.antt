-- The plates of a site: their contents, given any list of all rows, and their order.
use Rattle.std.specs.Prelude.{ℕ, ◌-◌, List, [], map, filter, slice_index_or, count_by, nat_lt}
use Rattle.std.specs.List.{flat_map, range_with_len}
use Rattle.pr_base.specs.declared.ink.Ink.{Ink}
use Rattle.plan_json.specs.Data.{PlanData, plate_width, plate_height}
use Rattle.tif_plate.specs.Plate.{plate_file}
use Rattle.plan_rows.specs.declared.group.Group.{Group}
use Rattle.plan_rows.specs.Inks.{inks_of, has_site}
use Rattle.plan_rows.specs.Groups.{groups_of}
use Rattle.plan_rows.specs.Rows.{row_number}
use Rattle.plan_rows.specs.Paths.{path_of}

-- a plate: its group and its ink
abbrev pub PlateOf : Type 0
PlateOf = Group × Ink

-- the plates of a group, ink by ink
abbrev pub group_plates : Group → List PlateOf
group_plates group = map (λ ink. (group, ink)) (inks_of group)

-- the plates of a site: its groups in order, and for each group its inks in order
unfoldable pub site_plates : PlanData → ℕ → List PlateOf
site_plates plan site = flat_map group_plates (filter (λ group. has_site group site) (groups_of plan))

-- the rows of a plate from the top, given all rows in order
abbrev pub plate_rows : PlanData → List (List ℕ) → PlateOf → List (List ℕ)
plate_rows plan rows plate =
    map (λ y. slice_index_or rows (row_number plate.0 y plate.1) []) (range_with_len 0 (plate_height plan))

-- the number of the last row of a plate
abbrev pub last_row : PlanData → PlateOf → ℕ
last_row plan plate = row_number plate.0 (plate_height plan - 1) plate.1

-- a plate's path and the bytes of its file
abbrev pub file_of : PlanData → List (List ℕ) → List ℕ → ℕ → PlateOf → List ℕ × List ℕ
file_of plan rows out site plate =
    let file = plate_file (plate_width plan) plan.dpi (plate_rows plan rows plate) in
    (path_of plan out site plate.0 plate.1, file)

-- the files of a site in order, given all rows in order
abbrev pub site_files : PlanData → List (List ℕ) → List ℕ → ℕ → List (List ℕ × List ℕ)
site_files plan rows out site = map (file_of plan rows out site) (site_plates plan site)

-- how many plates of a site have all their rows numbered below n
abbrev pub plates_done : PlanData → ℕ → ℕ → ℕ
plates_done plan site n = count_by (λ plate. nat_lt (last_row plan plate) n) (site_plates plan site)
