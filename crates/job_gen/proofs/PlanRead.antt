-- The plan read from the value of a job.
use Rattle.std.proofs.Common.{◌≡◌, ℕ, ◌+◌, ◌*◌, ◌/◌, ◌%◌, ◌==◌, if◌then◌else◌, ◌<◌, ◌≤◌, true, false, List, [], ◌∷◌, ◌++◌, map, Some, None, Ok, refl, codes, zero, suc, nat_le, arith}
use Rattle.std.proofs.lemmas.Bool.Decides.{nat_tests}
use Rattle.std.specs.List.{range_with_len}
use Rattle.plan_parts.specs.Forms.{is_file_name, is_name, is_name_byte, names_a_file, parts}
use Rattle.plan_parts.specs.Reading.{at_item, at_key, object_with, required, optional, number, name, file_name, new_name, defined, items_in, items_within, each_after, nth}
use Rattle.plan_json.specs.Pages.{PageText, black, either, kind, paint, crop, mask, ink, placing, painting, layer, layers, inks_named, page_inks, page, pages, page_names}
use Rattle.plan_json.specs.PlanOf.{front, inks, joined, layout, page_size, margins, plan_by, plan_in}
use Rattle.plan_parts.specs.Printing.{each_ink, identities, mark, mark_in, mark_inks, marks, screen, screen_named, screens}
use Rattle.plan_json.specs.Zoning.{section_pages, section, sections, new_page, replace, replaced, zone, zones, site_zone, site, sites, zone_names}
use Rattle.std.specs.Fmt.{digits}
use Rattle.plan_json.specs.Files.{files_of, index_of, layer_of, page_of, pages_of}
use Rattle.job_gen.specs.Plan.{job_plan, plan_with, job_mark, job_screens, is_colour, job_files, job_pages, job_sections, job_sites, job_zones, line_file, mask_file, other_file, other_name, page_file, page_name}
use Rattle.job_gen.specs.Numbers.{size_of}
use Rattle.job_gen.specs.Text.{job_value, layout_members, printing_members, pages_value, sections_value, sites_value, value_with, whole, zones_value, list_of}

-- the pages as a text describes them, with the names of their files
text_page : ℕ → ℕ → PageText
text_page pages j = record {
  name = page_name j;
  colour = is_colour pages j;
  spot = false;
  layers =
      record { line = false; file = page_file j; x = 0; y = 0; scale = 4; crop = None; mask = None; overprint = false; ink = black }
      ∷ (if j % 2 == 1 then
      record { line = true; file = line_file; x = 0; y = 0; scale = 4; crop = None; mask = Some mask_file; overprint = true; ink = black } ∷ []
      else []);
}

abbrev other_text : PageText
other_text = record {
  name = other_name;
  colour = true;
  spot = false;
  layers = record { line = false; file = other_file; x = 0; y = 0; scale = 4; crop = None; mask = None; overprint = false; ink = black } ∷ [];
}

text_pages : ℕ → List PageText
text_pages pages = map (text_page pages) (range_with_len 1 pages) ++ other_text ∷ []

pages_four : (path : List ℕ) → pages false path (list_of (pages_value 4)) ≡ Ok (text_pages 4)
unfolding digits is_file_name is_name is_name_byte names_a_file parts object_with required optional number name file_name new_name items_in items_within each_after nth either kind paint crop mask ink placing painting layer layers inks_named page_inks page pages pages_value text_pages text_page
pages_four path = refl

pages_eight : (path : List ℕ) → pages false path (list_of (pages_value 8)) ≡ Ok (text_pages 8)
unfolding digits is_file_name is_name is_name_byte names_a_file parts object_with required optional number name file_name new_name items_in items_within each_after nth either kind paint crop mask ink placing painting layer layers inks_named page_inks page pages pages_value text_pages text_page
pages_eight path = refl

-- the plan's pages and files
joined_four : (pages_of (text_pages 4) ≡ job_pages 4) × (files_of (text_pages 4) ≡ job_files 4)
unfolding digits text_pages text_page job_pages job_files pages_of page_of layer_of index_of files_of
joined_four = (refl, refl)

joined_eight : (pages_of (text_pages 8) ≡ job_pages 8) × (files_of (text_pages 8) ≡ job_files 8)
unfolding digits text_pages text_page job_pages job_files pages_of page_of layer_of index_of files_of
joined_eight = (refl, refl)

-- ---- the lists after the pages

sections_four : (path : List ℕ) → sections (page_names (text_pages 4)) path (list_of (sections_value 4)) ≡ Ok (job_sections 4)
unfolding digits is_name is_name_byte object_with required name new_name defined items_in items_within each_after section_pages section sections sections_value job_sections text_pages text_page
sections_four path = refl

sections_eight : (path : List ℕ) → sections (page_names (text_pages 8)) path (list_of (sections_value 8)) ≡ Ok (job_sections 8)
unfolding digits is_name is_name_byte object_with required name new_name defined items_in items_within each_after section_pages section sections sections_value job_sections text_pages text_page
sections_eight path = refl

zones_four : (path : List ℕ) → zones (page_names (text_pages 4)) (job_sections 4) path (list_of zones_value) ≡ Ok (job_zones 4)
unfolding digits is_name is_name_byte object_with required number name new_name defined items_in items_within each_after new_page replace replaced zone zones job_sections job_zones text_pages text_page
zones_four path = refl

zones_eight : (path : List ℕ) → zones (page_names (text_pages 8)) (job_sections 8) path (list_of zones_value) ≡ Ok (job_zones 8)
unfolding digits is_name is_name_byte object_with required number name new_name defined items_in items_within each_after new_page replace replaced zone zones job_sections job_zones text_pages text_page
zones_eight path = refl

-- the sites, whose number is one of four
sites_are : (count k : ℕ) (path : List ℕ) → k < 4 → sites (zone_names (job_zones count)) path (list_of (sites_value (k + 1))) ≡ Ok (job_sites (k + 1))
unfolding digits is_name is_name_byte object_with required optional name new_name defined items_in items_within each_after site_zone site sites sites_value job_sites job_zones
sites_are count zero path h = refl
sites_are count (suc zero) path h = refl
sites_are count (suc (suc zero)) path h = refl
sites_are count (suc (suc (suc zero))) path h = refl
sites_are count (suc (suc (suc (suc k)))) path h = absurd (omega arith)

-- ---- numbers that are not literal

number_is : (low high n : ℕ) (path : List ℕ) → low ≤ n → n ≤ high → number low high path (whole n) ≡ Ok n
unfolding number
number_is low high n path least most = grind (arith, nat_tests)

page_size_is : (width height : ℕ) (path : List ℕ) → 1 ≤ width → width ≤ 65535 → 1 ≤ height → height ≤ 65535
    → page_size path (list_of (whole width ∷ whole height ∷ [])) ≡ Ok (width, height)
unfolding page_size items_in items_within nth
page_size_is width height path a b c d =
    let w = number_is 1 65535 width (at_item path 0) a b in
    let h = number_is 1 65535 height (at_item path 1) c d in
    rw (w, h) refl

-- ---- the three parts

front_is : (sites pages size : ℕ) → 1 ≤ size → size ≤ 16
    → front [] (value_with sites pages size)
    ≡ Ok (record {
      edition = codes "DRILL";
      dpi = 1200;
      page_width = 64 * size;
      page_height = 48 * size;
      margins = 8 ∷ 8 ∷ 8 ∷ 8 ∷ [];
      gutter = 16;
      limit = 612;
    })
unfolding front value_with printing_members layout_members required optional is_name is_name_byte name margins number items_in items_within nth
front_is sites pages size least most =
    let page = page_size_is (64 * size) (48 * size) (at_key [] (codes "page")) (omega arith) (omega arith) (omega arith) (omega arith) in
    let wide : nat_le (8 + 2 * (64 * size) + 16 + 8) 65535 ≡ true = grind (arith, nat_tests) in
    let high : nat_le (8 + 48 * size + 8) 65535 ≡ true = grind (arith, nat_tests) in
    rw (page, wide, high) refl

inks_are : (sites pages size : ℕ) → 1 ≤ size → size ≤ 16
    → inks false (8 + 2 * (64 * size) + 16 + 8) (8 + 48 * size + 8) [] (value_with sites pages size)
    ≡ Ok (record { tiles = []; screens = job_screens; curves = identities; marks = job_mark ∷ [] })
unfolding digits inks value_with printing_members layout_members required optional object_with number items_in items_within each_after screens each_ink screen screen_named marks mark mark_in mark_inks
inks_are sites pages size least most =
    let wide : nat_le (0 + 4) (8 + 2 * (64 * size) + 16 + 8) ≡ true = grind (arith, nat_tests) in
    let high : nat_le (0 + 4) (8 + 48 * size + 8) ≡ true = grind (arith, nat_tests) in
    rw (wide, high) refl

-- the lists of a plan with this many pages, each as its text is read
layout_with : (k count size : ℕ) → k < 4 → ((path : List ℕ) → pages false path (list_of (pages_value count)) ≡ Ok (text_pages count))
    → ((path : List ℕ) → sections (page_names (text_pages count)) path (list_of (sections_value count)) ≡ Ok (job_sections count))
    → ((path : List ℕ) → zones (page_names (text_pages count)) (job_sections count) path (list_of zones_value) ≡ Ok (job_zones count))
    → layout false [] (value_with (k + 1) count size)
    ≡ Ok (record { pages = text_pages count; sections = job_sections count; zones = job_zones count; sites = job_sites (k + 1) })
unfolding layout value_with printing_members layout_members required optional
layout_with k count size below pages_are sections_are zones_are =
    rw (
      pages_are (at_key [] (codes "pages")),
      sections_are (at_key [] (codes "sections")),
      zones_are (at_key [] (codes "zones")),
      sites_are count k (at_key [] (codes "sites")) below,
    )
    refl

-- ---- the plan

plan_four : (k size : ℕ) → k < 4 → 1 ≤ size → size ≤ 16 → plan_in (value_with (k + 1) 4 size) ≡ Ok (plan_with (k + 1) 4 size)
unfolding plan_in plan_by joined object_with required number value_with printing_members layout_members plan_with
plan_four k size below least most =
    rw (front_is (k + 1) 4 size least most, inks_are (k + 1) 4 size least most, layout_with k 4 size below pages_four sections_four zones_four, joined_four.0, joined_four.1) refl

plan_eight : (k size : ℕ) → k < 4 → 1 ≤ size → size ≤ 16 → plan_in (value_with (k + 1) 8 size) ≡ Ok (plan_with (k + 1) 8 size)
unfolding plan_in plan_by joined object_with required number value_with printing_members layout_members plan_with
plan_eight k size below least most =
    rw (front_is (k + 1) 8 size least most, inks_are (k + 1) 8 size least most, layout_with k 8 size below pages_eight sections_eight zones_eight, joined_eight.0, joined_eight.1) refl

plan_by_half : (k half size : ℕ) → k < 4 → half < 2 → 1 ≤ size → size ≤ 16
    → plan_in (value_with (k + 1) (4 + 4 * half) size) ≡ Ok (plan_with (k + 1) (4 + 4 * half) size)
plan_by_half k zero size below few least most = plan_four k size below least most
plan_by_half k (suc zero) size below few least most = plan_eight k size below least most
plan_by_half k (suc (suc half)) size below few least most = absurd (omega arith)

-- the value of job n is its plan
pub plan_is : (n : ℕ) → plan_in (job_value n) ≡ Ok (job_plan n)
plan_is n = plan_by_half (n % 4) (n / 4 % 2) (size_of n) (omega arith) (omega arith) (omega arith) (omega arith)
