-- The plan of a generated job.
use Rattle.std.specs.Prelude.{ℕ, ◌+◌, ◌*◌, ◌/◌, ◌%◌, ◌-◌, ◌==◌, ◌||◌, Bool, true, false, not, if◌then◌else◌}
use Rattle.std.specs.Prelude.{List, [], ◌∷◌, ◌++◌, map, Some, None, codes, decimal}
use Rattle.std.specs.List.{range_with_len}
use Rattle.plan_parts.specs.declared.printing.Screen.{Screen}
use Rattle.plan_parts.specs.declared.printing.Screen.TheVariants.{Bayer, Diffuse}
use Rattle.plan_parts.specs.Data.{LayerData, MarkData, PageData}
use Rattle.plan_json.specs.Data.{PlanData, SectionData, SiteData, ZoneData}
use Rattle.plan_json.specs.Pages.{black}
use Rattle.plan_parts.specs.Printing.{identities}
use Rattle.job_gen.specs.Numbers.{page_count, site_count, size_of}

-- ---- names

-- page j of the section, and its file
abbrev pub page_name : ℕ → List ℕ
page_name j = codes "p" ++ decimal j

abbrev pub page_file : ℕ → List ℕ
page_file j = page_name j ++ codes ".tif"

-- the page with which the zone replaces the first page, and its file
abbrev pub other_name : List ℕ
other_name = codes "z1"

abbrev pub other_file : List ℕ
other_file = codes "z1.tif"

abbrev pub line_file : List ℕ
line_file = codes "line.tif"

abbrev pub mask_file : List ℕ
mask_file = codes "mask.tif"

abbrev pub site_name : ℕ → List ℕ
site_name i = codes "S" ++ decimal i

-- ---- files

-- each file once, in the order in which the layers mention them: the first page has the linework and its mask
unfoldable pub job_files : ℕ → List (List ℕ)
job_files pages =
    page_file 1 ∷ line_file ∷ mask_file ∷ map page_file (range_with_len 2 (pages - 1)) ++ other_file ∷ []

-- the indexes of the files
abbrev pub page_index : ℕ → ℕ
page_index j = if j == 1 then 0 else j + 1

abbrev pub line_index : ℕ
line_index = 1

abbrev pub mask_index : ℕ
mask_index = 2

abbrev pub other_index : ℕ → ℕ
other_index pages = pages + 2

-- ---- pages

-- an image at four times its size in the corner of the page
abbrev pub image_layer : ℕ → LayerData
image_layer file = record {
  line = false;
  file = file;
  x = 0;
  y = 0;
  scale = 4;
  crop = None;
  mask = None;
  overprint = false;
  ink = black;
}

-- linework visible where the mask is marked, printed in black over the layers below
abbrev pub line_layer : LayerData
line_layer = record (image_layer line_index) { line = true; mask = Some mask_index; overprint = true }

-- page j of `pages`: the two in the middle print only K, and each odd page has the linework on top
abbrev pub is_colour : ℕ → ℕ → Bool
is_colour pages j = not (j == pages / 2 || j == pages / 2 + 1)

abbrev pub page_layers : ℕ → List LayerData
page_layers j = image_layer (page_index j) ∷ (if j % 2 == 1 then line_layer ∷ [] else [])

abbrev pub section_page : ℕ → ℕ → PageData
section_page pages j = record {
  name = page_name j;
  colour = is_colour pages j;
  spot = false;
  layers = page_layers j;
}

abbrev pub other_page : ℕ → PageData
other_page pages =
    record { name = other_name; colour = true; spot = false; layers = image_layer (other_index pages) ∷ [] }

-- the section's pages, followed by the replacement page
unfoldable pub job_pages : ℕ → List PageData
job_pages pages = map (section_page pages) (range_with_len 1 pages) ++ other_page pages ∷ []

-- ---- the other lists

-- a mark of 4 by 4 pixels of C, M, Y and K in the plate's corner
abbrev pub job_mark : MarkData
job_mark = record { inks = true ∷ true ∷ true ∷ true ∷ false ∷ []; x = 0; y = 0; w = 4; h = 4 }

-- the section has the pages in order
unfoldable pub job_sections : ℕ → List SectionData
job_sections pages = record { name = codes "A"; pages = range_with_len 0 pages } ∷ []

-- the zone replaces the section's first page with the other page
unfoldable pub job_zones : ℕ → List ZoneData
job_zones pages =
    record { name = codes "Z"; replace = record { section = 0; page = 1; with = pages } ∷ [] } ∷ []

-- sites with odd numbers have the zone
abbrev pub job_site : ℕ → SiteData
job_site i = record { name = site_name i; zone = if i % 2 == 1 then Some 0 else None }

unfoldable pub job_sites : ℕ → List SiteData
job_sites sites = map job_site (range_with_len 0 sites)

-- the screens of C, M, Y and K; S, which no page prints, has the default screen
abbrev pub job_screens : List Screen
job_screens = Bayer 4 ∷ Bayer 8 ∷ Bayer 16 ∷ Diffuse ∷ Bayer 8 ∷ []

-- ---- the plan

-- a plan with this many sites and pages, and of this size
unfoldable pub plan_with : ℕ → ℕ → ℕ → PlanData
plan_with sites pages size = record {
  edition = codes "DRILL";
  dpi = 1200;
  page_width = 64 * size;
  page_height = 48 * size;
  margins = 8 ∷ 8 ∷ 8 ∷ 8 ∷ [];
  gutter = 16;
  limit = 612;
  tiles = [];
  screens = job_screens;
  curves = identities;
  marks = job_mark ∷ [];
  pages = job_pages pages;
  sections = job_sections pages;
  zones = job_zones pages;
  sites = job_sites sites;
  files = job_files pages;
}

-- the plan of job n
abbrev pub job_plan : ℕ → PlanData
job_plan n = plan_with (site_count n) (page_count n) (size_of n)
