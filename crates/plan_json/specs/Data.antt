-- The content of a plan, as plain data. Texts are their bytes; lists of five are in the order C, M, Y, K, S.
use Rattle.std.specs.Prelude.{ℕ, ◌+◌, ◌*◌, List, ◌∷◌, slice_index, option_to_list}
use Rattle.std.specs.List.{flat_map}
use Rattle.plan_parts.specs.declared.printing.Screen.{Screen}
use Rattle.plan_parts.specs.Data.{CurveData, LayerData, MarkData, PageData, TileData}
use Rattle.plan_json.specs.declared.zoning.Replace.{Replace}
use Rattle.plan_json.specs.declared.zoning.PlanSite.{PlanSite}

-- a page that a zone prints instead of one of a section's own
abbrev pub ReplaceData : Type 0
ReplaceData = Replace

-- a print site and the index of its zone
abbrev pub SiteData : Type 0
SiteData = PlanSite

-- a section and the indexes of its pages
pub record SectionData : Type 0 where
  pub name : List ℕ
  pub pages : List ℕ

-- a zone and the replacements that it makes
pub record ZoneData : Type 0 where
  pub name : List ℕ
  pub replace : List ReplaceData

-- a plan; `margins` are left, top, right, bottom
pub record PlanData : Type 0 where
  pub edition : List ℕ
  pub dpi : ℕ
  pub page_width : ℕ
  pub page_height : ℕ
  pub margins : List ℕ
  pub gutter : ℕ
  pub limit : ℕ
  pub tiles : List TileData
  pub screens : List Screen
  pub curves : List CurveData
  pub marks : List MarkData
  pub pages : List PageData
  pub sections : List SectionData
  pub zones : List ZoneData
  pub sites : List SiteData
  pub files : List (List ℕ)

-- ---- plates

-- the sides of a plate in pixels: two pages side by side, the gutter between them and the margins around
abbrev pub width_over : List ℕ → ℕ → ℕ → ℕ
width_over margins page_width gutter = slice_index margins 0 + 2 * page_width + gutter + slice_index margins 2

abbrev pub height_over : List ℕ → ℕ → ℕ
height_over margins page_height = slice_index margins 1 + page_height + slice_index margins 3

abbrev pub plate_width : PlanData → ℕ
plate_width plan = width_over plan.margins plan.page_width plan.gutter

abbrev pub plate_height : PlanData → ℕ
plate_height plan = height_over plan.margins plan.page_height

-- ---- files

-- the indexes of the files of a layer, the image before the mask
abbrev pub layer_files : LayerData → List ℕ
layer_files layer = layer.file ∷ option_to_list layer.mask

-- the indexes of all files, page by page and layer by layer
abbrev pub mentioned : List PageData → List ℕ
mentioned pages = flat_map (λ page. flat_map layer_files page.layers) pages
