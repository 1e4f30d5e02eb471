-- What a plan says about the spot ink does not affect the order of rows.
use Rattle.std.proofs.Common.{◌≡◌, ℕ, ◌/◌, Bool, false, ◌||◌, List, [], ◌∷◌, ◌++◌, length, map, Option, Some, None, refl, ap, sym, ◌∙◌}
use Rattle.std.specs.Prelude.{slice_get, filter}
use Rattle.std.specs.List.{flat_map, range_with_len}
use Rattle.std.specs.Option.{option_map, option_map_or}
use Rattle.std.proofs.lemmas.Option.{slice_get-map}
use Rattle.plan_parts.specs.Data.{PageData}
use Rattle.plan_json.specs.Data.{PlanData, plate_height}
use Rattle.plan_pages.specs.Pages.{chosen_page, page_count}
use Rattle.plan_rows.specs.declared.group.Group.{Group}
use Rattle.plan_rows.specs.Inks.{has_site}
use Rattle.plan_rows.specs.Groups.{site_pages, is_first, group_of, groups_among, pair_groups, section_groups, groups_of, numbered, page_colour, page_spot, pages_of}
use Rattle.plan_rows.specs.Rows.{RowPlanData, rows_of, places_in, row_places, keeps_in, keeps_row}
use Rattle.plan_rows.specs.Paths.{path_of}
use Rattle.plan_rows.specs.Plates.{group_plates, site_plates, file_of, site_files}
use Rattle.plan_rows.specs.Spot.{spotless_page, without_spot, SameButSpot}

pub map-same : {X Y : Type 0} (f g : X → Y) (xs : List X) → ((x : X) → f x ≡ g x) → map f xs ≡ map g xs
map-same f g [] same = refl
map-same f g (x ∷ xs) same = ap (λ y. y ∷ map f xs) (same x) ∙ ap (λ ys. g x ∷ ys) (map-same f g xs same)

flat_map-same : {X Y : Type 0} (f g : X → List Y) (xs : List X) → ((x : X) → f x ≡ g x) → flat_map f xs ≡ flat_map g xs
flat_map-same f g [] same = refl
flat_map-same f g (x ∷ xs) same = ap (λ ys. ys ++ flat_map f xs) (same x) ∙ ap (λ ys. g x ++ ys) (flat_map-same f g xs same)

-- changing pages keeps a flag of the page at an index, if it keeps that flag of each page
pub of_page : (other : PageData → PageData) (f : PageData → Bool) (pages : List PageData) (page : ℕ)
    → ((p : PageData) → f (other p) ≡ f p)
    → option_map_or f (slice_get (map other pages) page) false ≡ option_map_or f (slice_get pages page) false
of_page other f pages page same =
    ap (λ o. option_map_or f o false) (slice_get-map other pages page) ∙ each (slice_get pages page)
  where
    each : (o : Option PageData) → option_map_or f (option_map other o) false ≡ option_map_or f o false
    each None = refl
    each (Some p) = same p

colour_same : (plan : PlanData) (page : ℕ) → page_colour (without_spot plan) page ≡ page_colour plan page
unfolding without_spot
colour_same plan page = of_page spotless_page (λ p. p.colour) plan.pages page (λ p. refl)

spot_same : (plan : PlanData) (page : ℕ) → page_spot (without_spot plan) page ≡ page_spot plan page
unfolding without_spot
spot_same plan page = of_page spotless_page (λ p. p.spot) plan.pages page (λ p. refl)

group_same : (plan : PlanData) (section pair : ℕ) (pages : List (ℕ × ℕ)) (site : ℕ) → group_of (without_spot plan) section pair pages site ≡ group_of plan section pair pages site
unfolding group_of
group_same plan section pair pages site =
    let left = (pages_of pages site).0 in
    let right = (pages_of pages site).1 in
    let with : Bool → Bool → Group = λ colour spot. record (group_of plan section pair pages site) { colour = colour; spot = spot } in
    let bare = without_spot plan in
    ap (λ c. with (c || page_colour bare right) (page_spot bare left || page_spot bare right)) (colour_same plan left)
    ∙ ap (λ c. with (page_colour plan left || c) (page_spot bare left || page_spot bare right)) (colour_same plan right)
    ∙ ap (λ s. with (page_colour plan left || page_colour plan right) (s || page_spot bare right)) (spot_same plan left)
    ∙ ap (λ s. with (page_colour plan left || page_colour plan right) (page_spot plan left || s)) (spot_same plan right)

site_pages_same : (plan : PlanData) (section pair : ℕ) → site_pages (without_spot plan) section pair ≡ site_pages plan section pair
unfolding site_pages chosen_page without_spot
site_pages_same plan section pair = refl

pair_same : (plan : PlanData) (section pair : ℕ) → pair_groups (without_spot plan) section pair ≡ pair_groups plan section pair
unfolding pair_groups
pair_same plan section pair =
    let sites : length (without_spot plan).sites ≡ length plan.sites = unfold without_spot in refl in
    ap (λ pages. groups_among (without_spot plan) section pair pages (length (without_spot plan).sites)) (site_pages_same plan section pair)
    ∙ ap (λ n. groups_among (without_spot plan) section pair (site_pages plan section pair) n) sites
    ∙ map-same _ _ (filter (is_first (site_pages plan section pair)) (range_with_len 0 (length plan.sites))) (group_same plan section pair (site_pages plan section pair))

section_same : (plan : PlanData) (section : ℕ) → section_groups (without_spot plan) section ≡ section_groups plan section
unfolding section_groups
section_same plan section =
    let pages : page_count (without_spot plan) section ≡ page_count plan section = unfold without_spot in refl in
    ap (λ n. flat_map (pair_groups (without_spot plan) section) (range_with_len 1 (n / 2))) pages
    ∙ flat_map-same (pair_groups (without_spot plan) section) (pair_groups plan section) (range_with_len 1 (page_count plan section / 2)) (pair_same plan section)

groups_same : (plan : PlanData) → groups_of (without_spot plan) ≡ groups_of plan
unfolding groups_of
groups_same plan =
    let height : plate_height (without_spot plan) ≡ plate_height plan = unfold without_spot in refl in
    let sections : length (without_spot plan).sections ≡ length plan.sections = unfold without_spot in refl in
    ap (λ h. numbered h 0 (flat_map (section_groups (without_spot plan)) (range_with_len 0 (length (without_spot plan).sections)))) height
    ∙ ap (λ n. numbered (plate_height plan) 0 (flat_map (section_groups (without_spot plan)) (range_with_len 0 n))) sections
    ∙ ap (λ gs. numbered (plate_height plan) 0 gs) (flat_map-same (section_groups (without_spot plan)) (section_groups plan) (range_with_len 0 (length plan.sections)) (section_same plan))

rows_same : (plan : PlanData) → rows_of (without_spot plan) ≡ rows_of plan
rows_same plan =
    let height : plate_height (without_spot plan) ≡ plate_height plan = unfold without_spot in refl in
    ap (λ h. let r : RowPlanData = record { groups = groups_of (without_spot plan); height = h } in r) height
    ∙ ap (λ gs. let r : RowPlanData = record { groups = gs; height = plate_height plan } in r) (groups_same plan)

files_same : (plan : PlanData) (rows : List (List ℕ)) (out : List ℕ) (site : ℕ) → site_files (without_spot plan) rows out site ≡ site_files plan rows out site
unfolding without_spot path_of site_plates
files_same plan rows out site =
    ap (λ gs. map (file_of plan rows out site) (flat_map group_plates (filter (λ group. has_site group site) gs))) (groups_same plan)

-- ---- two plans

pub groups_alike : (a b : PlanData) → SameButSpot a b → groups_of a ≡ groups_of b
groups_alike a b same = sym (groups_same a) ∙ ap groups_of same ∙ groups_same b

pub rows_alike : (a b : PlanData) → SameButSpot a b → rows_of a ≡ rows_of b
rows_alike a b same = sym (rows_same a) ∙ ap {A = PlanData} (λ p. rows_of p) same ∙ rows_same b

pub places_alike : (a b : PlanData) → SameButSpot a b → row_places a ≡ row_places b
places_alike a b same = ap {A = RowPlanData} (λ r. places_in r) (rows_alike a b same)

pub keeps_alike : (a b : PlanData) (site n : ℕ) → SameButSpot a b → keeps_row a site n ≡ keeps_row b site n
keeps_alike a b site n same = ap {A = RowPlanData} (λ r. keeps_in r site n) (rows_alike a b same)

pub files_alike : (a b : PlanData) (rows : List (List ℕ)) (out : List ℕ) (site : ℕ) → SameButSpot a b → site_files a rows out site ≡ site_files b rows out site
files_alike a b rows out site same = sym (files_same a rows out site) ∙ ap {A = PlanData} (λ p. site_files p rows out site) same ∙ files_same b rows out site
