-- Reading sections, zones and sites, each by its table.
use Rattle.std.specs.Prelude.{ℕ, ◌%◌, ◌==◌, ◌&&◌, Bool, not, List, [], ◌∷◌, length, map, Option, None}
use Rattle.std.specs.Prelude.{Ok, slice_index_or, codes}
use Rattle.std.specs.List.{list_any}
use Rattle.plan_parts.specs.declared.fault.PlanFault.TheVariants.{Range, Repeat}
use Rattle.plan_json.specs.Data.{SectionData, ZoneData, ReplaceData, SiteData}
use Rattle.plan_json.specs.Pages.{present}
use Rattle.plan_parts.specs.Reading.{Reader, ◌>>=◌, ◌>>◌, must, object_with, required, optional, number}
use Rattle.plan_parts.specs.Reading.{new_name, defined, count_of, items_within, each_after, list_of}

-- ---- sections

-- an even number of defined pages, 2 to 128
unfoldable pub section_pages : List (List ℕ) → Reader (List ℕ)
section_pages pages path d = do
  items ← items_within 2 128 path d
  must (count_of items % 2 == 0) (Range path)
  each_after [] (λ _. defined pages) path items

abbrev pub section_keys : List (List ℕ)
section_keys = codes "name" ∷ codes "pages" ∷ []

abbrev pub section_names : List SectionData → List (List ℕ)
section_names sections = map (λ section. section.name) sections

unfoldable pub section : List (List ℕ) → List SectionData → Reader SectionData
section pages earlier path d = do
  o ← object_with section_keys path d
  name ← required (codes "name") (new_name (section_names earlier)) path o
  pages ← required (codes "pages") (section_pages pages) path o
  Ok (record { name = name; pages = pages })

unfoldable pub sections : List (List ℕ) → Reader (List SectionData)
sections pages = list_of 1 8 (section pages)

-- ---- zones

-- how many pages a section has
abbrev pub page_count : List SectionData → ℕ → ℕ
page_count sections section =
    length (slice_index_or sections section (record { name = []; pages = [] })).pages

-- whether an item replaces this page of this section
abbrev pub replaces : ℕ → ℕ → ReplaceData → Bool
replaces section page item = item.section == section && item.page == page

-- a place in a section, from 1, that no earlier item replaces
unfoldable pub new_page : List ReplaceData → ℕ → ℕ → Reader ℕ
new_page earlier section count path d = do
  page ← number 1 count path d
  must (not (list_any (replaces section page) earlier)) (Repeat path)
  Ok page

abbrev pub replace_keys : List (List ℕ)
replace_keys = codes "section" ∷ codes "page" ∷ codes "with" ∷ []

unfoldable pub replace : List (List ℕ) → List SectionData → List ReplaceData → Reader ReplaceData
replace pages sections earlier path d = do
  o ← object_with replace_keys path d
  section ← required (codes "section") (defined (section_names sections)) path o
  page ← required (codes "page") (new_page earlier section (page_count sections section)) path o
  with ← required (codes "with") (defined pages) path o
  Ok (record { section = section; page = page; with = with })

unfoldable pub replaced : List (List ℕ) → List SectionData → Reader (List ReplaceData)
replaced pages sections = list_of 0 1024 (replace pages sections)

abbrev pub zone_keys : List (List ℕ)
zone_keys = codes "name" ∷ codes "replace" ∷ []

abbrev pub zone_names : List ZoneData → List (List ℕ)
zone_names zones = map (λ zone. zone.name) zones

unfoldable pub zone : List (List ℕ) → List SectionData → List ZoneData → Reader ZoneData
zone pages sections earlier path d = do
  o ← object_with zone_keys path d
  name ← required (codes "name") (new_name (zone_names earlier)) path o
  items ← required (codes "replace") (replaced pages sections) path o
  Ok (record { name = name; replace = items })

unfoldable pub zones : List (List ℕ) → List SectionData → Reader (List ZoneData)
zones pages sections = list_of 0 16 (zone pages sections)

-- ---- sites

unfoldable pub site_zone : List (List ℕ) → Reader (Option ℕ)
site_zone zones = present (defined zones)

abbrev pub site_keys : List (List ℕ)
site_keys = codes "name" ∷ codes "zone" ∷ []

abbrev pub site_names : List SiteData → List (List ℕ)
site_names sites = map (λ site. site.name) sites

unfoldable pub site : List (List ℕ) → List SiteData → Reader SiteData
site zones earlier path d = do
  o ← object_with site_keys path d
  name ← required (codes "name") (new_name (site_names earlier)) path o
  zone ← optional (codes "zone") None (site_zone zones) path o
  Ok (record { name = name; zone = zone })

unfoldable pub sites : List (List ℕ) → Reader (List SiteData)
sites zones = list_of 1 16 (site zones)
