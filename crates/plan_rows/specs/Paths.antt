-- The path of a plate: OUT/SITE/EDITION-SECTION-PPP-I.tif.
use Rattle.std.specs.Prelude.{ℕ, ◌+◌, ◌/◌, ◌%◌, List, [], ◌∷◌, ◌++◌, codes, slice_get}
use Rattle.std.specs.Option.{option_map_or}
use Rattle.pr_base.specs.declared.ink.Ink.{Ink}
pub use Rattle.pr_base.specs.Ink.{letter_of}
use Rattle.plan_json.specs.Data.{PlanData}
use Rattle.plan_rows.specs.declared.group.Group.{Group}

-- the last three decimal digits of a number
abbrev pub three_digits : ℕ → List ℕ
three_digits n = (48 + n / 100 % 10) ∷ (48 + n / 10 % 10) ∷ (48 + n % 10) ∷ []

abbrev pub site_name : PlanData → ℕ → List ℕ
site_name plan site = option_map_or (λ s. s.name) (slice_get plan.sites site) []

abbrev pub section_name : PlanData → ℕ → List ℕ
section_name plan section = option_map_or (λ s. s.name) (slice_get plan.sections section) []

-- SECTION-PPP-I
abbrev pub plate_text : List ℕ → ℕ → List ℕ → List ℕ
plate_text section pair letter = section ++ codes "-" ++ three_digits pair ++ codes "-" ++ letter

-- EDITION-SECTION-PPP-I.tif
abbrev pub name_text : List ℕ → List ℕ → ℕ → List ℕ → List ℕ
name_text edition section pair letter =
    edition ++ codes "-" ++ plate_text section pair letter ++ codes ".tif"

-- OUT/SITE/NAME
abbrev pub path_text : List ℕ → List ℕ → List ℕ → List ℕ
path_text out site name = out ++ codes "/" ++ site ++ codes "/" ++ name

-- the name of a plate within its edition
unfoldable pub plate_name_of : PlanData → Group → Ink → List ℕ
plate_name_of plan group ink = plate_text (section_name plan group.section) group.pair (letter_of ink)

-- the name of a plate's file
abbrev pub file_name : PlanData → Group → Ink → List ℕ
file_name plan group ink = name_text plan.edition (section_name plan group.section) group.pair (letter_of ink)

-- the path of a plate at a site
unfoldable pub path_of : PlanData → List ℕ → ℕ → Group → Ink → List ℕ
path_of plan out site group ink = path_text out (site_name plan site) (file_name plan group ink)
