-- The JSON value of a generated job's plan.
use Rattle.std.specs.Prelude.{ℕ, ◌*◌, ◌%◌, ◌==◌, Bool, true, if◌then◌else◌, List, [], ◌∷◌, ◌++◌, map, codes}
use Rattle.std.specs.List.{range_with_len}
use Rattle.serde_json.specs.Data.{Data, Items, Members, array, item, no_items, no_members, number, object}
use Rattle.serde_json.specs.Data.{put, string, unsigned}
use Rattle.std.specs.Borrow.{Bor}
use Rattle.job_gen.specs.declared.members.Plain.{Plain}
use Rattle.job_gen.specs.declared.members.Plain.TheVariants.{Text, Number, Numbers}
use Rattle.job_gen.specs.Numbers.{page_count, site_count, size_of}
use Rattle.job_gen.specs.Plan.{is_colour, line_file, mask_file, other_file, other_name, page_file, page_name}
use Rattle.job_gen.specs.Plan.{site_name}

-- ---- values

abbrev pub whole : ℕ → Data
whole n = number (unsigned n)

abbrev pub items_of : List Data → Items
items_of [] = no_items
items_of (d ∷ ds) = item d (items_of ds)

abbrev pub list_of : List Data → Data
list_of ds = array (items_of ds)

-- the members with these added one after the other
abbrev pub put_all : Members → List (List ℕ × Data) → Members
put_all members [] = members
put_all members (m ∷ ms) = put_all (put m.0 m.1 members) ms

-- an object with these members
abbrev pub object_of : List (List ℕ × Data) → Data
object_of ms = object (put_all no_members ms)

-- an object with these members and one more
abbrev pub object_with : List (List ℕ × Data) → List ℕ → Data → Data
object_with ms key d = object (put key d (put_all no_members ms))

-- a text, a number or a list of numbers
abbrev pub value_of : Plain → Data
value_of (Text text) = string text.now
value_of (Number n) = whole n
value_of (Numbers all) = list_of (map whole all.now)

-- members with such values
abbrev pub members_of : List (Bor (List ℕ) × Plain) → List (List ℕ × Data)
members_of members = map (λ member. (member.0.now, value_of member.1)) members

-- ---- pages

abbrev pub image_layer_value : List ℕ → Data
image_layer_value file =
    object_of
    ((codes "kind", string (codes "contone")) ∷ (codes "file", string file) ∷ (codes "scale", whole 4) ∷ [])

abbrev pub line_layer_value : Data
line_layer_value =
    object_of
    ((codes "kind", string (codes "line")) ∷ (codes "file", string line_file)
    ∷ (codes "mask", string mask_file)
    ∷ (codes "scale", whole 4)
    ∷ (codes "paint", string (codes "overprint"))
    ∷ [])

abbrev pub page_value : List ℕ → Bool → List Data → Data
page_value name colour layers =
    object_of
    ((codes "name", string name) ∷ (codes "inks", string (if colour then codes "CMYK" else codes "K"))
    ∷ (codes "layers", list_of layers)
    ∷ [])

abbrev pub layer_values : ℕ → List Data
layer_values j = image_layer_value (page_file j) ∷ (if j % 2 == 1 then line_layer_value ∷ [] else [])

abbrev pub section_page_value : ℕ → ℕ → Data
section_page_value pages j = page_value (page_name j) (is_colour pages j) (layer_values j)

abbrev pub other_page_value : Data
other_page_value = page_value other_name true (image_layer_value other_file ∷ [])

unfoldable pub pages_value : ℕ → List Data
pages_value pages = map (section_page_value pages) (range_with_len 1 pages) ++ other_page_value ∷ []

-- ---- the other lists

abbrev pub name_values : ℕ → List Data
name_values pages = map (λ j. string (page_name j)) (range_with_len 1 pages)

unfoldable pub sections_value : ℕ → List Data
sections_value pages =
    object_of ((codes "name", string (codes "A")) ∷ (codes "pages", list_of (name_values pages)) ∷ []) ∷ []

abbrev pub zones_value : List Data
zones_value =
    object_of
    ((codes "name", string (codes "Z"))
    ∷ (
      codes "replace",
      list_of
          (object_of
          ((codes "section", string (codes "A")) ∷ (codes "page", whole 1)
          ∷ (codes "with", string other_name) ∷ []) ∷ []),
    )
    ∷ [])
    ∷ []

abbrev pub site_value : ℕ → Data
site_value i =
    object_of
    ((codes "name", string (site_name i))
    ∷ (if i % 2 == 1 then (codes "zone", string (codes "Z")) ∷ [] else []))

unfoldable pub sites_value : ℕ → List Data
sites_value sites = map site_value (range_with_len 0 sites)

abbrev pub screens_value : Data
screens_value =
    object_of
    ((codes "C", string (codes "bayer4")) ∷ (codes "M", string (codes "bayer8"))
    ∷ (codes "Y", string (codes "bayer16"))
    ∷ (codes "K", string (codes "diffuse"))
    ∷ [])

abbrev pub marks_value : List Data
marks_value =
    object_of
    ((codes "inks", string (codes "CMYK")) ∷ (codes "x", whole 0) ∷ (codes "y", whole 0)
    ∷ (codes "w", whole 4) ∷ (codes "h", whole 4) ∷ [])
    ∷ []

-- ---- the plan

-- the members for printing: sizes, resolution, screens and marks
unfoldable pub printing_members : ℕ → List (List ℕ × Data)
printing_members size =
    (codes "plan", whole 1) ∷ (codes "edition", string (codes "DRILL")) ∷ (codes "dpi", whole 1200)
    ∷ (codes "page", list_of (whole (64 * size) ∷ whole (48 * size) ∷ []))
    ∷ (codes "margins", list_of (whole 8 ∷ whole 8 ∷ whole 8 ∷ whole 8 ∷ []))
    ∷ (codes "gutter", whole 16)
    ∷ (codes "limit", whole 612)
    ∷ (codes "screens", screens_value)
    ∷ (codes "marks", list_of marks_value)
    ∷ []

-- the members for the layout: pages, sections, zones and sites
unfoldable pub layout_members : ℕ → ℕ → List (List ℕ × Data)
layout_members sites pages =
    (codes "pages", list_of (pages_value pages)) ∷ (codes "sections", list_of (sections_value pages))
    ∷ (codes "zones", list_of zones_value)
    ∷ (codes "sites", list_of (sites_value sites))
    ∷ []

unfoldable pub value_with : ℕ → ℕ → ℕ → Data
value_with sites pages size =
    object (put_all (put_all no_members (printing_members size)) (layout_members sites pages))

-- the value of job n
abbrev pub job_value : ℕ → Data
job_value n = value_with (site_count n) (page_count n) (size_of n)
