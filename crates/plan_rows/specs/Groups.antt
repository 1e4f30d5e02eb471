-- The groups of a plan: for each section and pair, the sites grouped by the two pages that they print.
use Rattle.std.specs.Prelude.{ℕ, ◌+◌, ◌*◌, ◌/◌, ◌^◌, Bool, false, not, ◌==◌, ◌&&◌, ◌||◌, if◌then◌else◌, List}
use Rattle.std.specs.Prelude.{[], ◌∷◌, length, map, filter, take, sum_by, slice_get, slice_index_or}
use Rattle.std.specs.List.{enumerate_from, flat_map, list_any, range_with_len}
use Rattle.std.specs.Option.{option_map_or}
use Rattle.plan_json.specs.Data.{PlanData, plate_height}
use Rattle.plan_pages.specs.Pages.{chosen_page, page_count, pair_of}
use Rattle.plan_rows.specs.declared.group.Group.{Group}
use Rattle.plan_rows.specs.Inks.{ink_count}

-- the left and the right page that a site prints as a pair of a section
abbrev pub pages_at : PlanData → ℕ → ℕ → ℕ → ℕ × ℕ
pages_at plan section pair site =
    let places = pair_of (page_count plan section) pair in
    (chosen_page plan site section places.0, chosen_page plan site section places.1)

-- these pages, for each site
unfoldable pub site_pages : PlanData → ℕ → ℕ → List (ℕ × ℕ)
site_pages plan section pair = map (pages_at plan section pair) (range_with_len 0 (length plan.sites))

-- whether two sites print the same two pages
abbrev pub same_pages : ℕ × ℕ → ℕ × ℕ → Bool
same_pages a b = a.0 == b.0 && a.1 == b.1

abbrev pub pages_of : List (ℕ × ℕ) → ℕ → ℕ × ℕ
pages_of pages site = slice_index_or pages site (0, 0)

-- whether no earlier site prints the same two pages as this one
abbrev pub is_first : List (ℕ × ℕ) → ℕ → Bool
is_first pages site = not (list_any (same_pages (pages_of pages site)) (take site pages))

-- 2 ^ i if site i prints these two pages, otherwise 0
abbrev pub site_bit : ℕ × ℕ → ℕ × (ℕ × ℕ) → ℕ
site_bit pages (site, its) = if same_pages pages its then 2 ^ site else 0

-- the sites that print the same two pages as this one: bit i for site i
abbrev pub sites_like : List (ℕ × ℕ) → ℕ → ℕ
sites_like pages site = sum_by (site_bit (pages_of pages site)) (enumerate_from 0 pages)

-- whether a page prints C, M and Y, and whether it prints S
abbrev pub page_colour : PlanData → ℕ → Bool
page_colour plan page = option_map_or (λ p. p.colour) (slice_get plan.pages page) false

abbrev pub page_spot : PlanData → ℕ → Bool
page_spot plan page = option_map_or (λ p. p.spot) (slice_get plan.pages page) false

-- the group of the sites that print the same pages as this one; its first row is numbered later
unfoldable pub group_of : PlanData → ℕ → ℕ → List (ℕ × ℕ) → ℕ → Group
group_of plan section pair pages site =
    let left = (pages_of pages site).0 in
    let right = (pages_of pages site).1 in
    record {
      section = section;
      pair = pair;
      left = left;
      right = right;
      sites = sites_like pages site;
      colour = page_colour plan left || page_colour plan right;
      spot = page_spot plan left || page_spot plan right;
      first = 0;
    }

-- the groups of a pair whose first site is among the first `sites` sites
abbrev pub groups_among : PlanData → ℕ → ℕ → List (ℕ × ℕ) → ℕ → List Group
groups_among plan section pair pages sites =
    map (group_of plan section pair pages) (filter (is_first pages) (range_with_len 0 sites))

-- the groups of a pair, in the order of their first sites
unfoldable pub pair_groups : PlanData → ℕ → ℕ → List Group
pair_groups plan section pair =
    groups_among plan section pair (site_pages plan section pair) (length plan.sites)

-- the groups of a section, pair by pair from 1
unfoldable pub section_groups : PlanData → ℕ → List Group
section_groups plan section =
    flat_map (pair_groups plan section) (range_with_len 1 (page_count plan section / 2))

-- the number of rows of a group
abbrev pub row_count : ℕ → Group → ℕ
row_count height group = height * ink_count group

-- groups with the numbers of their first rows: each begins where the previous one ends
abbrev pub numbered : ℕ → ℕ → List Group → List Group
numbered height first [] = []
numbered height first (group ∷ groups) =
    record group { first = first } ∷ numbered height (first + row_count height group) groups

-- all groups of a plan: section by section, pair by pair, and in the order of their first sites
unfoldable pub groups_of : PlanData → List Group
groups_of plan =
    numbered (plate_height plan) 0 (flat_map (section_groups plan) (range_with_len 0 (length plan.sections)))
