-- The definitions at small plans, made from that of press_job: a section of two pages with one layer each, at
-- one site, and what changes when one thing is changed.
use Rattle.std.proofs.Common.{◌≡◌, ℕ, false, List, [], ◌∷◌, None, refl}
use Rattle.std.specs.Prelude.{codes}
use Rattle.pr_base.specs.declared.ink.Ink.TheVariants.{K}
use Rattle.plan_parts.specs.declared.printing.Screen.TheVariants as screens
use Rattle.plan_parts.specs.Data.{PageData, TileData}
use Rattle.plan_json.specs.Data.{PlanData}
use Rattle.plan_pages.specs.Pages.{chosen_page}
use Rattle.plan_rows.specs.Groups.{group_of, groups_of, pair_groups, section_groups, site_pages}
use Rattle.plan_rows.specs.Paths.{path_of}
use Rattle.press_job.proofs.SmallJob.{layer, small}
use Rattle.replate.specs.Recipe.{PageRecipe, Recipe, page_recipe, recipe_of, settings_of, Own}
use Rattle.replate.specs.Plates.{PlateAt, all_plates, has_path, path_below, plates_of}
use Rattle.replate.specs.Picks.{dropped_of}

abbrev page : List ℕ → ℕ → PageData
page name file = record { name = name; colour = false; spot = false; layers = record layer { file = file } ∷ [] }

abbrev tile : List ℕ → List ℕ → TileData
tile name at = record { name = name; width = 2; height = 1; at = at }

abbrev plan : List ℕ → List ℕ → TileData → List PageData → List ℕ → PlanData
plan edition site own pages section = record small {
  edition = edition;
  tiles = own ∷ [];
  screens = screens.Bayer 8 ∷ screens.Bayer 8 ∷ screens.Bayer 8 ∷ screens.Own 0 ∷ screens.Bayer 8 ∷ [];
  pages = pages;
  sections = record { name = section; pages = 0 ∷ 1 ∷ [] } ∷ [];
  sites = record { name = site; zone = None } ∷ [];
}

abbrev two : List PageData
two = page (codes "p") 0 ∷ page (codes "q") 1 ∷ []

abbrev first : PlanData
first = plan (codes "E1") (codes "OSLO") (tile (codes "dots") (9 ∷ 200 ∷ [])) two (codes "A")

abbrev page_of : ℕ → PageRecipe
page_of byte = record {
  colour = false;
  spot = false;
  layers = record { rest = layer; image = byte ∷ []; mask = None } ∷ [];
}

-- the recipe of the plate of the second page next to the first
recipe : Recipe
recipe = record {
  settings = settings_of small;
  screen = Own 2 1 (9 ∷ 200 ∷ []);
  left = page_of 66;
  right = page_of 65;
}

recipe_is : recipe_of first ((65 ∷ []) ∷ (66 ∷ []) ∷ []) 1 0 K ≡ recipe
unfolding recipe recipe_of page_recipe
recipe_is = refl

-- the same with other names for the tile, the pages, the site and the section
renamed : recipe_of (plan (codes "E1") (codes "BERGEN") (tile (codes "own") (9 ∷ 200 ∷ [])) (page (codes "r") 0 ∷ page (codes "s") 1 ∷ []) (codes "B"))
    ((65 ∷ []) ∷ (66 ∷ []) ∷ []) 1 0 K ≡ recipe
unfolding recipe recipe_of page_recipe
renamed = refl

-- the same with two files exchanged, in the plan and in the folder
exchanged : recipe_of (plan (codes "E1") (codes "OSLO") (tile (codes "dots") (9 ∷ 200 ∷ [])) (page (codes "p") 1 ∷ page (codes "q") 0 ∷ []) (codes "A"))
    ((66 ∷ []) ∷ (65 ∷ []) ∷ []) 1 0 K ≡ recipe
unfolding recipe recipe_of page_recipe
exchanged = refl

-- ---- which plates are dropped

abbrev plate : PlateAt
plate = record { site = 0; group = 0; ink = K }

path_is : path_below first plate ≡ codes "/OSLO/E1-A-001-K.tif"
unfolding path_of groups_of section_groups pair_groups group_of site_pages chosen_page
path_is = refl

nothing_changed : dropped_of first first ≡ []
unfolding dropped_of all_plates plates_of has_path path_of groups_of section_groups pair_groups group_of site_pages chosen_page
nothing_changed = refl

another_edition : dropped_of first (plan (codes "E2") (codes "OSLO") (tile (codes "dots") (9 ∷ 200 ∷ [])) two (codes "A")) ≡ plate ∷ []
unfolding dropped_of all_plates plates_of has_path path_of groups_of section_groups pair_groups group_of site_pages chosen_page
another_edition = refl

another_site : dropped_of first (plan (codes "E1") (codes "BERGEN") (tile (codes "dots") (9 ∷ 200 ∷ [])) two (codes "A")) ≡ plate ∷ []
unfolding dropped_of all_plates plates_of has_path path_of groups_of section_groups pair_groups group_of site_pages chosen_page
another_site = refl

-- another tile drops nothing
another_tile : dropped_of first (plan (codes "E1") (codes "OSLO") (tile (codes "dots") (9 ∷ 201 ∷ [])) two (codes "A")) ≡ []
unfolding dropped_of all_plates plates_of has_path path_of groups_of section_groups pair_groups group_of site_pages chosen_page
another_tile = refl
