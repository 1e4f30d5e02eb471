-- The clauses of every plan that is read. Crates above rely on `IsPlan`.
use Rattle.std.specs.Prelude.{◌≡◌, ◌<◌, ◌≤◌, ℕ, ◌%◌, ◌==◌, ◌&&◌, IsTrue, nat_eq, not, List, [], length, map}
use Rattle.std.specs.Prelude.{slice_index_or, IfSome, All, AllPairs}
use Rattle.std.specs.List.{range_with_len}
use Rattle.indexmap.specs.IndexSet.{insert_all}
use Rattle.plan_parts.specs.Forms.{is_name, is_file_name}
use Rattle.pr_base.specs.Number.{IsWithin}
use Rattle.plan_parts.specs.Words.{AreDistinct}
use Rattle.plan_parts.specs.Parts.{IsTile, IsScreen, IsCurve, IsMark, IsPage}
use Rattle.plan_json.specs.Data.{PlanData, SectionData, ZoneData, ReplaceData, SiteData, plate_width}
use Rattle.plan_json.specs.Data.{plate_height, mentioned}

-- ---- zones

-- a section has 2 to 128 pages, an even number, each an index into the plan's pages
pub record IsSection (page_count : ℕ) (section : SectionData) : Type 0 where
  pub name : IsTrue (is_name section.name)
  pub count : IsWithin 2 128 (length section.pages)
  pub even : length section.pages % 2 ≡ 0
  pub pages : All (λ page. page < page_count) section.pages

-- a page of a section, counted from 1, is replaced by one of the plan's pages
pub record IsReplace (page_count : ℕ) (sections : List SectionData) (item : ReplaceData) : Type 0 where
  pub section : item.section < length sections
  pub page : (s : SectionData) → IsWithin 1 (length (slice_index_or sections item.section s).pages) item.page
  pub with : item.with < page_count

-- two items that replace different pages
abbrev pub ReplaceApart : ReplaceData → ReplaceData → Type 0
ReplaceApart a b = IsTrue (not (a.section == b.section && a.page == b.page))

-- a zone has at most 1024 items, and replaces no page twice
pub record IsZone (page_count : ℕ) (sections : List SectionData) (zone : ZoneData) : Type 0 where
  pub name : IsTrue (is_name zone.name)
  pub count : length zone.replace ≤ 1024
  pub items : All (IsReplace page_count sections) zone.replace
  pub apart : AllPairs ReplaceApart zone.replace

-- a site prints the sections' own pages, or those of one of the plan's zones
pub record IsSite (zones : ℕ) (site : SiteData) : Type 0 where
  pub name : IsTrue (is_name site.name)
  pub zone : IfSome site.zone (λ zone. zone < zones)

-- ---- the plan

pub record IsPlan (plan : PlanData) : Type 0 where
  pub edition : IsTrue (is_name plan.edition)
  pub dpi : IsWithin 1 10000 plan.dpi
  pub page_width : IsWithin 1 65535 plan.page_width
  pub page_height : IsWithin 1 65535 plan.page_height
  -- four margins
  pub margins : length plan.margins ≡ 4
  -- a plate's sides are at most 65535
  pub width : plate_width plan ≤ 65535
  pub height : plate_height plan ≤ 65535
  pub limit : plan.limit ≤ 1020
  -- at most 16 tiles, with distinct names
  pub tile_count : length plan.tiles ≤ 16
  pub tiles : All IsTile plan.tiles
  pub tile_names : AreDistinct (map (λ tile. tile.name) plan.tiles)
  -- a screen and a curve for each ink
  pub screen_count : length plan.screens ≡ 5
  pub screens : All (IsScreen (length plan.tiles)) plan.screens
  pub curve_count : length plan.curves ≡ 5
  pub curves : All IsCurve plan.curves
  -- at most 64 marks, all within the plate
  pub mark_count : length plan.marks ≤ 64
  pub marks : All (IsMark (plate_width plan) (plate_height plan)) plan.marks
  -- 1 to 2048 pages, with distinct names
  pub page_count : IsWithin 1 2048 (length plan.pages)
  pub pages : All (IsPage (length plan.files)) plan.pages
  pub page_names : AreDistinct (map (λ page. page.name) plan.pages)
  -- 1 to 8 sections, with distinct names
  pub section_count : IsWithin 1 8 (length plan.sections)
  pub sections : All (IsSection (length plan.pages)) plan.sections
  pub section_names : AreDistinct (map (λ section. section.name) plan.sections)
  -- at most 16 zones, with distinct names
  pub zone_count : length plan.zones ≤ 16
  pub zones : All (IsZone (length plan.pages) plan.sections) plan.zones
  pub zone_names : AreDistinct (map (λ zone. zone.name) plan.zones)
  -- 1 to 16 sites, with distinct names
  pub site_count : IsWithin 1 16 (length plan.sites)
  pub sites : All (IsSite (length plan.zones)) plan.sites
  pub site_names : AreDistinct (map (λ site. site.name) plan.sites)
  -- the files, each once, in the order in which the layers first mention them
  pub files : All (λ file. IsTrue (is_file_name file)) plan.files
  pub file_names : AreDistinct plan.files
  pub first_mention : insert_all nat_eq [] (mentioned plan.pages) ≡ range_with_len 0 (length plan.files)
