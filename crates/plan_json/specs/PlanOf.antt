-- The plan of a text, or its first fault with the fault's path.
use Rattle.std.specs.Prelude.{ℕ, ◌==◌, ◌&&◌, Bool, if◌then◌else◌, nat_le, List, [], ◌∷◌, Option, None, Ok}
use Rattle.std.specs.Prelude.{codes}
use Rattle.std.specs.Str.{is_utf8}
use Rattle.serde_json.specs.Data.{Data}
use Rattle.serde_json.specs.Read.{read}
use Rattle.plan_parts.specs.declared.fault.PlanFault.TheVariants.{NotJson, Range}
use Rattle.plan_json.specs.declared.first_keys.FirstKeys.{FirstKeys}
use Rattle.plan_json.specs.Data.{PlanData, width_over, height_over}
use Rattle.plan_json.specs.Printed.{Inks, Layout}
use Rattle.plan_parts.specs.Reading.{Read, Reader, ◌>>=◌, ◌>>◌, must, some_or, at_key, object_with, required}
use Rattle.plan_parts.specs.Reading.{optional, number, name, items_within, nth}
use Rattle.plan_parts.specs.Printing.{tiles, screens, bayer_screens, curves, identities, marks}
use Rattle.plan_json.specs.Pages.{four_numbers, pages, page_names}
use Rattle.plan_json.specs.Files.{files_of, pages_of}
use Rattle.plan_json.specs.Zoning.{sections, zones, zone_names, sites}

-- ---- the first keys: edition, resolution, the sizes of pages and plates, ink limit

-- width and height
unfoldable pub page_size : Reader (ℕ × ℕ)
page_size path d = do
  items ← items_within 2 2 path d
  width ← nth 0 (number 1 65535) path items
  height ← nth 1 (number 1 65535) path items
  Ok (width, height)

-- left, top, right and bottom
unfoldable pub margins : Reader (List ℕ)
margins = four_numbers 0

-- the margins if the key is absent
abbrev pub no_margins : List ℕ
no_margins = 0 ∷ 0 ∷ 0 ∷ 0 ∷ []

-- a plate's sides are at most 65535
abbrev pub fits_plate : List ℕ → ℕ → ℕ → ℕ → Bool
fits_plate margins page_width page_height gutter =
    nat_le (width_over margins page_width gutter) 65535 && nat_le (height_over margins page_height) 65535

unfoldable pub front : Reader FirstKeys
front path o = do
  edition ← required (codes "edition") name path o
  dpi ← required (codes "dpi") (number 1 10000) path o
  page ← required (codes "page") page_size path o
  margins ← optional (codes "margins") no_margins margins path o
  gutter ← optional (codes "gutter") 0 (number 0 65535) path o
  must (fits_plate margins page.0 page.1 gutter) (Range (at_key path (codes "page")))
  limit ← optional (codes "limit") 1020 (number 0 1020) path o
  Ok (record {
    edition = edition;
    dpi = dpi;
    page_width = page.0;
    page_height = page.1;
    margins = margins;
    gutter = gutter;
    limit = limit;
  })

-- the sides of a plate by these keys
abbrev pub width_by : FirstKeys → ℕ
width_by f = width_over f.margins f.page_width f.gutter

abbrev pub height_by : FirstKeys → ℕ
height_by f = height_over f.margins f.page_height

-- ---- the next keys: how inks are printed

-- the keys for inks, on a plate of this width and height
unfoldable pub inks : Bool → ℕ → ℕ → Reader Inks
inks spot width height path o = do
  tiles ← optional (codes "tiles") [] tiles path o
  screens ← optional (codes "screens") bayer_screens (screens spot tiles) path o
  curves ← optional (codes "curves") identities (curves spot) path o
  marks ← optional (codes "marks") [] (marks spot width height) path o
  Ok (record { tiles = tiles; screens = screens; curves = curves; marks = marks })

-- ---- the last keys: which pages go where

unfoldable pub layout : Bool → Reader Layout
layout spot path o = do
  pages ← required (codes "pages") (pages spot) path o
  sections ← required (codes "sections") (sections (page_names pages)) path o
  zones ← optional (codes "zones") [] (zones (page_names pages) sections) path o
  sites ← required (codes "sites") (sites (zone_names zones)) path o
  Ok (record { pages = pages; sections = sections; zones = zones; sites = sites })

-- ---- the top object

abbrev pub top_keys : List (List ℕ)
top_keys =
    codes "plan" ∷ codes "edition" ∷ codes "dpi" ∷ codes "page" ∷ codes "margins" ∷ codes "gutter"
    ∷ codes "limit" ∷ codes "tiles" ∷ codes "screens"
    ∷ codes "curves" ∷ codes "marks" ∷ codes "pages" ∷ codes "sections" ∷ codes "zones" ∷ codes "sites" ∷ []

-- the plan with these three parts
unfoldable pub joined : FirstKeys → Inks → Layout → PlanData
joined front inks layout = record {
  edition = front.edition;
  dpi = front.dpi;
  page_width = front.page_width;
  page_height = front.page_height;
  margins = front.margins;
  gutter = front.gutter;
  limit = front.limit;
  tiles = inks.tiles;
  screens = inks.screens;
  curves = inks.curves;
  marks = inks.marks;
  pages = pages_of layout.pages;
  sections = layout.sections;
  zones = layout.zones;
  sites = layout.sites;
  files = files_of layout.pages;
}

-- the keys after `plan`, with or without a spot ink
unfoldable pub plan_by : Bool → Reader PlanData
plan_by spot path o = do
  front ← front path o
  inks ← inks spot (width_by front) (height_by front) path o
  layout ← layout spot path o
  Ok (joined front inks layout)

-- the plan of a value; a spot ink requires plan 2
unfoldable pub plan_in : Data → Read PlanData
plan_in d = do
  o ← object_with top_keys [] d
  number ← required (codes "plan") (number 1 2) [] o
  plan_by (number == 2) [] o

-- the value of a text, if it is UTF-8 and JSON
unfoldable pub json_of : List ℕ → Option Data
json_of bytes = if is_utf8 bytes then read bytes else None

-- the plan of a text
unfoldable pub plan_of : List ℕ → Read PlanData
plan_of bytes = some_or NotJson (json_of bytes) >>= plan_in
