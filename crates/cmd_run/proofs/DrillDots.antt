-- The plates of a site of a job: their number, and that their rows fill them.
use Rattle.std.proofs.Common.{◌≡◌, ℕ, zero, suc, ◌+◌, ◌*◌, ◌<◌, ◌≤◌, Bool, true, false, List, [], ◌∷◌, ◌++◌, length, map, get_or, All, Contains, codes, filter, flat_map, sum_by, Option, Some, refl, sym, ap, subst, ◌∙◌, add-one, append_assoc, arith}
use Rattle.std.specs.Prelude.{slice_get}
use Rattle.std.specs.Global.{Vec}
use Rattle.std.specs.Fmt.{decimal}
use Rattle.std.specs.List.{range_with_len}
use Rattle.std.specs.Option.{option_map_or}
use Rattle.std.proofs.lemmas.List.{append-nil, get_or_default, length-map}
use Rattle.std.proofs.lemmas.List.Concat.{length-flat_map}
use Rattle.std.proofs.lemmas.List.Elements.{All-append, All-filter, All-map, All-nil, All-head, All-tail, All-weaker}
use Rattle.std.proofs.lemmas.List.FromFn.{get_or-map-range_with_len, length-range_with_len}
use Rattle.std.proofs.lemmas.List.Sums.{count_by-le-length, length-filter, sum_by-le}
use Rattle.std.proofs.lemmas.Simd.{map-map}
use Rattle.std.proofs.lemmas.Option.{slice_get-get_or, slice_get_within}
use Rattle.pr_base.specs.declared.ink.Ink.{Ink}
use Rattle.pr_base.specs.Row.{row_size}
use Rattle.pr_rack.specs.Mem.{files_of, plate_of}
use Rattle.pr_rack.specs.Rack.{Plate}
use Rattle.tif_plate.specs.Plate.{plate_file}
use Rattle.plan_json.specs.Data.{PlanData, SiteData, plate_height, plate_width}
use Rattle.plan_json.specs.Plan.{IsPlan}
use Rattle.plan_pages.specs.declared.shape.PlateShape.{PlateShape}
use Rattle.plan_pages.specs.Plate.{shape_of_plate}
use Rattle.plan_rows.specs.declared.group.Group.{Group}
use Rattle.plan_rows.specs.Groups.{groups_of}
use Rattle.plan_rows.specs.Inks.{has_site, inks_of, process_inks, spot_inks}
use Rattle.plan_rows.specs.Paths.{site_name}
use Rattle.plan_rows.specs.Plates.{PlateOf, file_of, group_plates, plate_rows as rows_of_plate, site_files, site_plates}
use Rattle.plan_rows.specs.Rows.{row_number, row_places}
use Rattle.plan_rows.proofs.Places.{IsRowAt, groups_count, row_placed}
use Rattle.press_job.specs.Rows.{plate_rows}
use Rattle.press_job.proofs.FrameLemmas.{rows-long}
use Rattle.drill_mem.specs.Dots.{HasSides, all_dots, bytes_of}
use Rattle.cmd_run.specs.Drill.{dots_line, dots_lines, finished_end, finished_ends, site_dots}

-- ---- the number of plates of a site

few_inks : (group : Group) → length (group_plates group) ≤ 5
few_inks group = omega (arith, length-map {B = PlateOf} (inks_of group) (λ ink. (group, ink)), by group.colour group.spot)
  where
    by : (colour spot : Bool) → length (process_inks colour ++ spot_inks spot) ≤ 5
    by true true = omega arith
    by true false = omega arith
    by false true = omega arith
    by false false = omega arith

pub few_plates : (plan : PlanData) (site : ℕ) → IsPlan plan → length (site_plates plan site) < 4294967296
unfolding site_plates
few_plates plan site is =
    let groups : List Group = filter (λ group. has_site group site) (groups_of plan) in
    let each : sum_by (λ group. length (group_plates group)) groups ≤ length groups * 5 =
    sum_by-le (λ group. length (group_plates group)) 5 groups (λ k d less. few_inks (get_or groups k d)) in
    omega (
      arith,
      each,
      length-flat_map group_plates groups,
      length-filter (λ group. has_site group site) (groups_of plan),
      count_by-le-length (λ group. has_site group site) (groups_of plan),
      groups_count plan is,
    )

-- ---- the rows of a plate

-- a plate of the plan: its group is one of the plan's, and prints the plate's ink
record IsOfPlan (plan : PlanData) (plate : PlateOf) : Type 0 where
  index : ℕ
  of : slice_get (groups_of plan) index ≡ Some plate.0
  printed : Contains (inks_of plate.0) plate.1

InPlan : PlanData → Group → Type 0
InPlan plan group = (index : ℕ) × (slice_get (groups_of plan) index ≡ Some group)

inks_are : (inks : List Ink) → All (λ ink. Contains inks ink) inks
inks_are inks k d less = (k, less, get_or_default inks k (get_or inks k d) d less)

group_of_plan : (plan : PlanData) (group : Group) → InPlan plan group → All (IsOfPlan plan) (group_plates group)
unfolding InPlan
group_of_plan plan group (index, of) =
    All-map (IsOfPlan plan) (λ ink. (group, ink)) (inks_of group)
    (All-weaker (λ ink. Contains (inks_of group) ink) (λ ink. IsOfPlan plan (group, ink))
    (λ ink printed. record { index = index; of = of; printed = printed }) (inks_of group) (inks_are (inks_of group)))

plates_of_plan : (plan : PlanData) (groups : List Group) → All (InPlan plan) groups → All (IsOfPlan plan) (flat_map group_plates groups)
plates_of_plan plan [] each = All-nil (IsOfPlan plan)
plates_of_plan plan (group ∷ groups) each =
    All-append (IsOfPlan plan) (group_plates group) (flat_map group_plates groups)
    (group_of_plan plan group (All-head (InPlan plan) group groups each))
    (plates_of_plan plan groups (All-tail (InPlan plan) group groups each))

all_in_plan : (plan : PlanData) → All (InPlan plan) (groups_of plan)
unfolding InPlan
all_in_plan plan k d less = (k, slice_get-get_or (groups_of plan) k d less)

site_plates_of_plan : (plan : PlanData) (site : ℕ) → All (IsOfPlan plan) (site_plates plan site)
unfolding site_plates
site_plates_of_plan plan site =
    plates_of_plan plan (filter (λ group. has_site group site) (groups_of plan))
    (All-filter (λ group. has_site group site) (InPlan plan) (groups_of plan) (all_in_plan plan))

-- a job has as many rows as row places
rows_count : (plan : PlanData) (files : List (List ℕ)) → length (plate_rows plan files) ≡ length (row_places plan)
unfolding plate_rows
rows_count plan files = length-map (row_places plan) _

-- row y of a plate is one of the job's rows
row_sized : (plan : PlanData) (files : List (List ℕ)) (plate : PlateOf) (y : ℕ) → IsPlan plan → IsOfPlan plan plate → y < plate_height plan
    → length (get_or (plate_rows plan files) (row_number plate.0 y plate.1) []) ≡ row_size (plate_width plan)
row_sized plan files plate y is of less =
    let n : ℕ = row_number plate.0 y plate.1 in
    let at : IsRowAt plan n of.index plate.0 y plate.1 = record { of = of.of; top = less; printed = of.printed; number = refl } in
    let within : n < length (row_places plan) = slice_get_within (row_places plan) n _ (row_placed plan n of.index plate.0 y plate.1 is at) in
    rows-long plan files n [] (omega (arith, within, rows_count plan files))

plate_sides : (plan : PlanData) (files : List (List ℕ)) (plate : PlateOf) → IsPlan plan → IsOfPlan plan plate
    → HasSides (plate_width plan) (plate_height plan) (rows_of_plate plan (plate_rows plan files) plate)
plate_sides plan files plate is of =
    let row : ℕ → List ℕ = λ y. get_or (plate_rows plan files) (row_number plate.0 y plate.1) [] in
    let height : ℕ = plate_height plan in
    let many : length (map row (range_with_len 0 height)) ≡ height = length-map (range_with_len 0 height) row ∙ length-range_with_len 0 height in
    record {
      count = many;
      sizes = λ y d less.
          let top : y < height = omega (arith, less, many) in
          ap length (get_or-map-range_with_len row 0 height y y d top (omega arith)) ∙ row_sized plan files plate y is of top;
    }

pub plates_sides : (plan : PlanData) (files : List (List ℕ)) (site : ℕ) → IsPlan plan
    → All (HasSides (plate_width plan) (plate_height plan)) (map (rows_of_plate plan (plate_rows plan files)) (site_plates plan site))
plates_sides plan files site is =
    All-map (HasSides (plate_width plan) (plate_height plan)) (rows_of_plate plan (plate_rows plan files)) (site_plates plan site)
    (All-weaker (IsOfPlan plan) (λ plate. HasSides (plate_width plan) (plate_height plan) (rows_of_plate plan (plate_rows plan files) plate))
    (λ plate of. plate_sides plan files plate is of) (site_plates plan site) (site_plates_of_plan plan site))

-- ---- the files of a site

-- the files of a site are the plates of these rows
pub files_are : (plan : PlanData) (rows : List (List ℕ)) (out : List ℕ) (site : ℕ) (files : List (List ℕ × Vec ℕ))
    → files_of files ≡ site_files plan rows out site
    → bytes_of files ≡ map (plate_file (plate_width plan) plan.dpi) (map (rows_of_plate plan rows) (site_plates plan site))
files_are plan rows out site files is =
    let bytes : Plate → List ℕ = λ plate. plate.1 in
    sym (map-map bytes plate_of files) ∙ ap (map bytes) is
    ∙ map-map bytes (file_of plan rows out site) (site_plates plan site)
    ∙ sym (map-map (plate_file (plate_width plan) plan.dpi) (rows_of_plate plan rows) (site_plates plan site))

pub files_count : (plan : PlanData) (rows : List (List ℕ)) (out : List ℕ) (site : ℕ) (files : List (List ℕ × Vec ℕ)) → IsPlan plan
    → files_of files ≡ site_files plan rows out site → length files < 4294967296
files_count plan rows out site files is same =
    omega (arith, length-map files plate_of, ap length same, length-map (site_plates plan site) (file_of plan rows out site), few_plates plan site is)

-- a plate file has eight bytes before its rows
front_there : (width dpi : ℕ) (rows : List (List ℕ)) → 8 ≤ length (plate_file width dpi rows)
unfolding plate_file
front_there width dpi rows = omega arith

pub fronts_there : (plan : PlanData) (rows : List (List ℕ)) (out : List ℕ) (site : ℕ) (files : List (List ℕ × Vec ℕ))
    → files_of files ≡ site_files plan rows out site → All (λ file. 8 ≤ length file) (bytes_of files)
fronts_there plan rows out site files is =
    let P : List (List ℕ) → Type 0 = λ l. All (λ file. 8 ≤ length file) l in
    let plates : List (List (List ℕ)) = map (rows_of_plate plan rows) (site_plates plan site) in
    subst P (sym (files_are plan rows out site files is))
    (All-map (λ file. 8 ≤ length file) (plate_file (plate_width plan) plan.dpi) plates
    (λ k d less. front_there (plate_width plan) plan.dpi (get_or plates k d)))

-- the count over the files of a site is its number of dots
pub dots_are : (plan : PlanData) (images : List (List ℕ)) (out : List ℕ) (site : ℕ) (files : List (List ℕ × Vec ℕ)) (shape : PlateShape)
    (dots : ℕ) → IsPlan plan → shape ≡ shape_of_plate plan → files_of files ≡ site_files plan (plate_rows plan images) out site
    → ((dpi : ℕ) (plates : List (List (List ℕ))) → bytes_of files ≡ map (plate_file shape.width dpi) plates
    → All (HasSides shape.width shape.height) plates → dots ≡ all_dots plates)
    → dots ≡ site_dots plan (plate_rows plan images) site
unfolding site_dots
dots_are plan images out site files shape dots is_plan is_shape is counted =
    let plates : List (List (List ℕ)) = map (rows_of_plate plan (plate_rows plan images)) (site_plates plan site) in
    counted plan.dpi plates
    (files_are plan (plate_rows plan images) out site files is ∙ ap (λ (s : PlateShape). map (plate_file s.width plan.dpi) plates) (sym is_shape))
    (subst (λ (s : PlateShape). All (HasSides s.width s.height) plates) (sym is_shape) (plates_sides plan images site is_plan))

-- the lines of the first n sites, and one more
lines_upto : (f : ℕ → List ℕ) (a n j : ℕ) → a + n ≡ j → flat_map f (range_with_len a (suc n)) ≡ flat_map f (range_with_len a n) ++ f j
lines_upto f a zero j is = append-nil (f a) ∙ ap f (let e : a ≡ j = omega arith in e)
lines_upto f a (suc n) j is =
    ap (λ l. f a ++ l) (lines_upto f (a + 1) n j (omega arith)) ∙ sym (append_assoc (f a) (flat_map f (range_with_len (a + 1) n)) (f j))

pub lines_more : (plan : PlanData) (rows : List (List ℕ)) (sites : ℕ) → dots_lines plan rows (sites + 1) ≡ dots_lines plan rows sites ++ dots_line plan rows sites
lines_more plan rows sites = rw add-one (lines_upto (dots_line plan rows) 0 sites sites (omega arith))

-- a line printed like this is the site's
pub line_is : (text name : List ℕ) (dots : ℕ) (plan : PlanData) (rows : List (List ℕ)) (site : ℕ)
    → text ≡ codes "dots " ++ (name ++ (codes " " ++ (decimal dots ++ codes "\n"))) → name ≡ site_name plan site
    → dots ≡ site_dots plan rows site → text ≡ dots_line plan rows site
line_is text name dots plan rows site is is_name is_dots =
    is ∙ ap (λ (n : List ℕ). codes "dots " ++ (n ++ (codes " " ++ (decimal dots ++ codes "\n")))) is_name
    ∙ ap (λ (d : ℕ). codes "dots " ++ (site_name plan site ++ (codes " " ++ (decimal d ++ codes "\n")))) is_dots
    ∙ simp append_assoc

-- the name of a site
pub name_is : (plan : PlanData) (site : ℕ) (found : SiteData) → slice_get plan.sites site ≡ Some found → found.name ≡ site_name plan site
name_is plan site found at = sym (ap (λ (o : Option SiteData). option_map_or (λ (s : SiteData). s.name) o []) at)

-- there are as many ends as sites
pub ends_count : (plan : PlanData) → length (finished_ends plan) ≡ length plan.sites
unfolding finished_ends
ends_count plan = length-map (range_with_len 0 (length plan.sites)) (finished_end plan) ∙ length-range_with_len 0 (length plan.sites)
