-- The page that a site prints at each place of a section, and the two pages of a section that form a plate.
use Rattle.std.specs.Prelude.{ℕ, ◌+◌, ◌-◌, ◌%◌, Bool, ◌==◌, ◌&&◌, if◌then◌else◌, List, [], length, slice_get}
use Rattle.std.specs.Prelude.{slice_index}
use Rattle.std.specs.List.{find}
use Rattle.std.specs.Option.{option_and_then, option_map_or}
use Rattle.plan_json.specs.Data.{PlanData, ReplaceData}

-- the pages of a section
abbrev pub section_pages : PlanData → ℕ → List ℕ
section_pages plan section = option_map_or (λ s. s.pages) (slice_get plan.sections section) []

abbrev pub page_count : PlanData → ℕ → ℕ
page_count plan section = length (section_pages plan section)

-- the replacements of a site's zone; none if the site has no zone
abbrev pub replacements : PlanData → ℕ → List ReplaceData
replacements plan site =
    let index = option_and_then (λ s. s.zone) (slice_get plan.sites site) in
    option_map_or (λ zone. zone.replace) (option_and_then (λ zone. slice_get plan.zones zone) index) []

-- the item is for this page of this section; pages count from 1
abbrev pub is_for : ℕ → ℕ → ReplaceData → Bool
is_for section page item = item.section == section && item.page == page

-- the page that a site prints as page `page`, from 1, of a section: the one that its zone gives for it,
-- otherwise the section's own
unfoldable pub chosen_page : PlanData → ℕ → ℕ → ℕ → ℕ
chosen_page plan site section page =
    let own = slice_index (section_pages plan section) (page - 1) in
    option_map_or (λ item. item.with) (find (is_for section page) (replacements plan site)) own

-- the left and the right page of pair j in a section of n pages: pages j and n + 1 - j, the even one on the
-- left
abbrev pub pair_of : ℕ → ℕ → ℕ × ℕ
pair_of n j = if j % 2 == 0 then (j, n + 1 - j) else (n + 1 - j, j)
