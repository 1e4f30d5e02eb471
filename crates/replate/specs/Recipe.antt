-- The recipe of a plate: everything that its file is made of, as plain data. It contains no names of files,
-- pages, tiles, sections or zones: images, masks and tiles are included themselves.
use Rattle.std.specs.Prelude.{ℕ, Bool, List, [], map, slice_get, slice_index_or, Option, None, option_map}
use Rattle.std.specs.Option.{option_map_or}
use Rattle.pr_base.specs.declared.ink.Ink.{Ink}
use Rattle.plan_parts.specs.declared.printing.Screen.{Screen}
use Rattle.plan_parts.specs.declared.printing.Screen.TheVariants as screens
use Rattle.plan_parts.specs.Data.{LayerData, TileData}
use Rattle.plan_json.specs.Data.{PlanData}
use Rattle.pr_base.specs.Ink.{slot_of}
use Rattle.plan_rows.specs.Groups.{page_colour, page_spot}

-- ---- screens

-- how an ink is screened
pub data ScreenRecipe : Type 0 where
  -- by the Bayer tile of this side
  Bayer : ℕ → ScreenRecipe
  -- by error diffusion
  Diffuse : ScreenRecipe
  -- by a tile with this width, height and numbers
  Own : ℕ → ℕ → List ℕ → ScreenRecipe

-- a tile of the plan; a tile that the plan doesn't have has no numbers
abbrev pub tile_at : PlanData → ℕ → TileData
tile_at plan tile = slice_index_or plan.tiles tile (record { name = []; width = 0; height = 0; at = [] })

abbrev pub screen_recipe : PlanData → Screen → ScreenRecipe
screen_recipe plan (screens.Bayer side) = Bayer side
screen_recipe plan screens.Diffuse = Diffuse
screen_recipe plan (screens.Own tile) =
    let it = tile_at plan tile in
    Own it.width it.height it.at

-- how the plan screens an ink
abbrev pub screen_of : PlanData → Ink → Screen
screen_of plan ink = slice_index_or plan.screens (slot_of ink) screens.Diffuse

-- ---- pages

-- a layer, with the bytes of its image and its mask
pub record LayerRecipe : Type 0 where
  -- the layer without its files
  pub rest : LayerData
  pub image : List ℕ
  pub mask : Option (List ℕ)

-- a page; the first layer is at the bottom
pub record PageRecipe : Type 0 where
  pub colour : Bool
  pub spot : Bool
  pub layers : List LayerRecipe

-- the bytes of the file with this index
abbrev pub file_at : List (List ℕ) → ℕ → List ℕ
file_at files file = slice_index_or files file []

-- a layer without a mask, and with 0 in place of the index of its image
abbrev pub without_files : LayerData → LayerData
without_files layer = record layer { file = 0; mask = None }

abbrev pub layer_recipe : List (List ℕ) → LayerData → LayerRecipe
layer_recipe files layer = record {
  rest = without_files layer;
  image = file_at files layer.file;
  mask = option_map (file_at files) layer.mask;
}

-- the layers of a page in the plan
abbrev pub layers_at : PlanData → ℕ → List LayerData
layers_at plan page = option_map_or (λ p. p.layers) (slice_get plan.pages page) []

unfoldable pub page_recipe : PlanData → List (List ℕ) → ℕ → PageRecipe
page_recipe plan files page = record {
  colour = page_colour plan page;
  spot = page_spot plan page;
  layers = map (layer_recipe files) (layers_at plan page);
}

-- ---- plates

-- what all plates of a plan have in common: the plan with nothing but its resolution, its measures, its ink
-- limit, and all curves and all marks, of every ink
abbrev pub settings_of : PlanData → PlanData
settings_of plan = record plan {
  edition = [];
  tiles = [];
  screens = [];
  pages = [];
  sections = [];
  zones = [];
  sites = [];
  files = [];
}

-- the recipe of a plate
pub record Recipe : Type 0 where
  -- the settings of its plan
  pub settings : PlanData
  -- how its ink is screened
  pub screen : ScreenRecipe
  pub left : PageRecipe
  pub right : PageRecipe

-- the recipe of an ink's plate of two pages
unfoldable pub recipe_of : PlanData → List (List ℕ) → ℕ → ℕ → Ink → Recipe
recipe_of plan files left right ink = record {
  settings = settings_of plan;
  screen = screen_recipe plan (screen_of plan ink);
  left = page_recipe plan files left;
  right = page_recipe plan files right;
}
