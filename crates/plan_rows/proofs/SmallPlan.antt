-- The definitions, computed for a plan with one section of four pages and two sites; the second site prints a
-- different page 3.
use Rattle.std.proofs.Common.{◌≡◌, ℕ, false, List, [], ◌∷◌, map, filter, Some, None, refl}
use Rattle.std.specs.Prelude.{codes}
use Rattle.std.specs.List.{range_with_len}
use Rattle.pr_base.specs.declared.ink.Ink.TheVariants.{K}
use Rattle.plan_parts.specs.Data.{PageData}
use Rattle.plan_json.specs.Data.{PlanData}
use Rattle.plan_pages.specs.Pages.{chosen_page}
use Rattle.plan_rows.specs.declared.group.Group.{Group}
use Rattle.plan_rows.specs.Groups.{group_of, site_pages, pair_groups, section_groups, groups_of}
use Rattle.plan_rows.specs.Rows.{places_in, row_places, keeps_row, place_of}
use Rattle.plan_rows.specs.Plates.{PlateOf, site_plates, plate_rows}
use Rattle.plan_rows.specs.Paths.{path_of}

pub page : List ℕ → PageData
page name = record { name = name; colour = false; spot = false; layers = [] }

abbrev pub small : PlanData
small = record {
  edition = codes "E1";
  dpi = 1200;
  page_width = 8;
  page_height = 2;
  margins = 0 ∷ 0 ∷ 0 ∷ 0 ∷ [];
  gutter = 0;
  limit = 1020;
  tiles = [];
  screens = [];
  curves = [];
  marks = [];
  pages = page (codes "p") ∷ page (codes "q") ∷ page (codes "r") ∷ page (codes "s") ∷ page (codes "z") ∷ [];
  sections = record { name = codes "A"; pages = 0 ∷ 1 ∷ 2 ∷ 3 ∷ [] } ∷ [];
  zones = record { name = codes "Z"; replace = record { section = 0; page = 3; with = 4 } ∷ [] } ∷ [];
  sites = record { name = codes "OSLO"; zone = None } ∷ record { name = codes "BERGEN"; zone = Some 0 } ∷ [];
  files = [];
}

abbrev part : ℕ → ℕ → ℕ → ℕ → ℕ → Group
part pair left right sites first =
    record { section = 0; pair = pair; left = left; right = right; sites = sites; colour = false; spot = false; first = first }

-- pair 1 with both sites, then pair 2 with each site on its own
small_groups : groups_of small ≡ part 1 3 0 3 0 ∷ part 2 1 2 1 2 ∷ part 2 1 4 2 4 ∷ []
unfolding page groups_of section_groups pair_groups group_of site_pages chosen_page
small_groups = refl

small_places : row_places small ≡ place_of 0 0 K ∷ place_of 0 1 K ∷ place_of 1 0 K ∷ place_of 1 1 K ∷ place_of 2 0 K ∷ place_of 2 1 K ∷ []
unfolding page groups_of section_groups pair_groups group_of site_pages chosen_page places_in
small_places = refl

-- the rows that each site keeps
small_keeps_first : filter (keeps_row small 0) (range_with_len 0 7) ≡ 0 ∷ 1 ∷ 2 ∷ 3 ∷ []
unfolding page groups_of section_groups pair_groups group_of site_pages chosen_page places_in
small_keeps_first = refl

small_keeps_second : filter (keeps_row small 1) (range_with_len 0 7) ≡ 0 ∷ 1 ∷ 4 ∷ 5 ∷ []
unfolding page groups_of section_groups pair_groups group_of site_pages chosen_page places_in
small_keeps_second = refl

-- the plates of the second site, their rows and their paths
small_plates : ◌≡◌ {A = List PlateOf} (site_plates small 1) ((part 1 3 0 3 0, K) ∷ (part 2 1 4 2 4, K) ∷ [])
unfolding page site_plates groups_of section_groups pair_groups group_of site_pages chosen_page
small_plates = refl

abbrev rows : List (List ℕ)
rows = (10 ∷ []) ∷ (11 ∷ []) ∷ (12 ∷ []) ∷ (13 ∷ []) ∷ (14 ∷ []) ∷ (15 ∷ []) ∷ []

small_rows : map (plate_rows small rows) (site_plates small 1) ≡ ((10 ∷ []) ∷ (11 ∷ []) ∷ []) ∷ ((14 ∷ []) ∷ (15 ∷ []) ∷ []) ∷ []
unfolding page site_plates groups_of section_groups pair_groups group_of site_pages chosen_page
small_rows = refl

small_paths : map (λ plate. path_of small (codes "OUT") 1 plate.0 plate.1) (site_plates small 1) ≡ codes "OUT/BERGEN/E1-A-001-K.tif" ∷ codes "OUT/BERGEN/E1-A-002-K.tif" ∷ []
unfolding page path_of site_plates groups_of section_groups pair_groups group_of site_pages chosen_page
small_paths = refl
