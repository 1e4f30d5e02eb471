-- Without a spot, what a plan says about the spot ink does not affect its rows. The other inks depend only on
-- the plan without the last entry of each of its lists of five.
use Rattle.std.proofs.Common.{zero, suc, ◌≡◌, ◌≢◌, ℕ, ◌+◌, ◌-◌, ◌<◌, Bool, true, false, cond, ◌&&◌, ◌||◌, List, [], ◌∷◌, ◌++◌, map, take, refl, ap, sym, ◌∙◌, arith}
use Rattle.std.specs.Prelude.{All, Option, Some, None, slice_get, slice_index}
use Rattle.std.specs.List.{enumerate_from, flat_map, fold, list_any, range_with_len}
use Rattle.std.specs.Option.{option_map, option_map_or}
use Rattle.std.proofs.Math.Path.{fun_ext}
use Rattle.std.proofs.lemmas.List.{get_or-take}
use Rattle.std.proofs.lemmas.List.Elements.{All-append, All-cons, All-head, All-map, All-nil, All-tail}
use Rattle.std.proofs.lemmas.Option.{slice_get-map}
use Rattle.pr_base.specs.Bits.{packed_row}
use Rattle.pr_base.specs.declared.ink.Ink.{Ink}
use Rattle.pr_base.specs.declared.ink.Ink.TheVariants.{C, M, Y, K, S}
use Rattle.page_layers.specs.Inks.{blank, laid, laid_value}
use Rattle.page_layers.specs.Layer.{admits, column_at, covers_column, covers_row, ink_at, paint_at, painted, row_at}
use Rattle.page_tone.specs.Curve.{curve_value}
use Rattle.scr_tile.specs.Tile.{threshold_at, tile_bit}
use Rattle.scr_diffuse.specs.Diffusion.{diffused_bit}
use Rattle.plan_parts.specs.declared.printing.Screen.{Screen}
use Rattle.plan_parts.specs.declared.printing.Screen.TheVariants.{Bayer, Diffuse, Own}
use Rattle.plan_parts.specs.Data.{CurveData, LayerData, MarkData, PageData}
use Rattle.plan_json.specs.Data.{PlanData, plate_height, plate_width}
use Rattle.pr_base.specs.Ink.{slot_of}
use Rattle.plan_pages.specs.Plate.{covers, has_ink, is_marked_at, shape_of_plate}
use Rattle.plan_rows.specs.declared.group.Group.{Group}
use Rattle.plan_rows.specs.declared.place.RowPlace.{RowPlace}
use Rattle.plan_rows.specs.Groups.{group_of, groups_of, page_colour, page_spot, pages_of, site_pages}
use Rattle.plan_rows.specs.Inks.{inks_of, process_inks, spot_inks}
use Rattle.plan_rows.specs.Rows.{group_rows, place_of, places_in, row_places}
use Rattle.plan_rows.specs.Plates.{site_files}
use Rattle.plan_rows.specs.Spot.{SameButSpot, plain_curve, spotless_layer, spotless_mark, spotless_page, without_spot}
use Rattle.plan_rows.proofs.GroupLemmas.{all_groups, all_pieces}
use Rattle.plan_rows.proofs.SpotLemmas.{files_alike, groups_alike, map-same, of_page, places_alike}
use Rattle.press_job.specs.Layers.{layer_of, layers_of, planned_layers}
use Rattle.press_job.specs.Printing.{bit_under, limited_inks, own_threshold, page_bit, page_values, printed_at, printed_ink, printed_row, prints_ink, screen_of, toned, toned_ink}
use Rattle.press_job.specs.Rows.{covers_pixel, left_of, placed_bit, plate_bit, plate_row, plate_rows, right_of, row_at_place}
use Rattle.press_job.specs.Spotless.{IsSpotless}
use Rattle.press_job.proofs.LimitLemmas.{limited-same}

-- ---- lists

through : {X Y Z : Type 0} (f : Y → Z) (g : X → Y) (h : X → Z) (xs : List X) → ((x : X) → f (g x) ≡ h x)
    → map f (map g xs) ≡ map h xs
through f g h [] each = refl
through f g h (x ∷ xs) each = ap (λ z. z ∷ map f (map g xs)) (each x) ∙ ap (λ zs. h x ∷ zs) (through f g h xs each)

map-on : {X Y : Type 0} (P : X → Type 0) (f g : X → Y) (xs : List X) → All P xs → ((x : X) → P x → f x ≡ g x)
    → map f xs ≡ map g xs
map-on P f g [] all same = refl
map-on P f g (x ∷ xs) all same =
    ap (λ y. y ∷ map f xs) (same x (All-head P x xs all)) ∙ ap (λ ys. g x ∷ ys) (map-on P f g xs (All-tail P x xs all) same)

any-map : {X Y : Type 0} (f : Y → Bool) (g : X → Y) (h : X → Bool) (xs : List X) → ((x : X) → f (g x) ≡ h x)
    → list_any f (map g xs) ≡ list_any h xs
any-map f g h [] each = refl
any-map f g h (x ∷ xs) each = ap (λ t. t || list_any f (map g xs)) (each x) ∙ ap (λ t. h x || t) (any-map f g h xs each)

-- all but the last
abbrev front : {X : Type 0} → List X → List X
front [] = []
front (x ∷ []) = []
front (x ∷ y ∷ ys) = x ∷ front (y ∷ ys)

front-end : {X : Type 0} (xs : List X) (last : X) → front (xs ++ last ∷ []) ≡ xs
front-end [] last = refl
front-end (x ∷ []) last = refl
front-end (x ∷ y ∷ ys) last = ap (λ zs. x ∷ zs) (front-end (y ∷ ys) last)

-- ---- what the other inks depend on in a plan

abbrev process_mark : MarkData → MarkData
process_mark mark = record mark { inks = take 4 mark.inks }

abbrev process_layer : LayerData → LayerData
process_layer layer = record layer { ink = take 4 layer.ink }

abbrev process_page : PageData → PageData
process_page page = record page { layers = map process_layer page.layers }

-- the plan with the first four of each list of five
unfoldable process_plan : PlanData → PlanData
process_plan plan = record plan {
  screens = take 4 plan.screens;
  curves = take 4 plan.curves;
  marks = map process_mark plan.marks;
  pages = map process_page plan.pages;
}

-- all but the last of each list
abbrev front_mark : MarkData → MarkData
front_mark mark = record mark { inks = front mark.inks }

abbrev front_layer : LayerData → LayerData
front_layer layer = record layer { ink = front layer.ink }

abbrev front_page : PageData → PageData
front_page page = record page { layers = map front_layer page.layers }

front_plan : PlanData → PlanData
front_plan plan = record plan {
  screens = front plan.screens;
  curves = front plan.curves;
  marks = map front_mark plan.marks;
  pages = map front_page plan.pages;
}

fronts : (plan : PlanData) → front_plan (without_spot plan) ≡ process_plan plan
unfolding without_spot process_plan front_plan
fronts plan =
    let made : List Screen → List CurveData → List MarkData → List PageData → PlanData =
    λ screens curves marks pages. record plan { screens = screens; curves = curves; marks = marks; pages = pages } in
    let end = front-end (take 4 plan.screens) (Bayer 8) in
    let curve_end = front-end (take 4 plan.curves) plain_curve in
    let marks = through front_mark spotless_mark process_mark plan.marks (λ mark. ap {A = List Bool} (λ inks. let new : MarkData = record mark { inks = inks } in new) (front-end (take 4 mark.inks) false)) in
    let layers = λ (layer : LayerData). ap {A = List ℕ} (λ ink. let new : LayerData = record layer { ink = ink } in new) (front-end (take 4 layer.ink) 0) in
    let pages = through front_page spotless_page process_page plan.pages (λ page. ap {A = List LayerData} (λ ls. let new : PageData = record page { layers = ls } in new) (through front_layer spotless_layer process_layer page.layers layers)) in
    ap (λ s. made s (front (take 4 plan.curves ++ plain_curve ∷ [])) (map front_mark (map spotless_mark plan.marks)) (map front_page (map spotless_page plan.pages))) end
    ∙ ap (λ c. made (take 4 plan.screens) c (map front_mark (map spotless_mark plan.marks)) (map front_page (map spotless_page plan.pages))) curve_end
    ∙ ap (λ m. made (take 4 plan.screens) (take 4 plan.curves) m (map front_page (map spotless_page plan.pages))) marks
    ∙ ap (λ p. made (take 4 plan.screens) (take 4 plan.curves) (map process_mark plan.marks) p) pages

process_alike : (a b : PlanData) → SameButSpot a b → process_plan a ≡ process_plan b
process_alike a b same = sym (fronts a) ∙ ap front_plan same ∙ fronts b

-- ---- the bits of an ink other than S

slot-within : (ink : Ink) → ink ≢ S → slot_of ink < 4
slot-within C other = omega arith
slot-within M other = omega arith
slot-within Y other = omega arith
slot-within K other = omega arith
slot-within S other = absurd (other refl)

-- the first n values after painting values over others
take-laid : (n : ℕ) (overprint : Bool) (paints unders : List ℕ)
    → take n (laid overprint paints unders) ≡ laid overprint (take n paints) (take n unders)
take-laid zero overprint paints unders = refl
take-laid (suc n) overprint [] unders = refl
take-laid (suc n) overprint (paint ∷ paints) [] = refl
take-laid (suc n) overprint (paint ∷ paints) (under ∷ unders) = ap (λ vs. laid_value overprint paint under ∷ vs) (take-laid n overprint paints unders)

laid-alike : (overprint : Bool) (paints paints' unders unders' : List ℕ) → take 4 paints ≡ take 4 paints'
    → take 4 unders ≡ take 4 unders'
    → take 4 (laid overprint paints unders) ≡ take 4 (laid overprint paints' unders')
laid-alike overprint paints paints' unders unders' paint under =
    take-laid 4 overprint paints unders ∙ ap (λ ps. laid overprint ps (take 4 unders)) paint ∙ ap (λ us. laid overprint (take 4 paints') us) under ∙ sym (take-laid 4 overprint paints' unders')

shown-alike : (shown overprint : Bool) (paints paints' unders unders' : List ℕ)
    → take 4 paints ≡ take 4 paints' → take 4 unders ≡ take 4 unders'
    → take 4 (cond {A = List ℕ} shown (laid overprint paints unders) unders)
    ≡ take 4 (cond {A = List ℕ} shown (laid overprint paints' unders') unders')
shown-alike true overprint paints paints' unders unders' paint under = laid-alike overprint paints paints' unders unders' paint under
shown-alike false overprint paints paints' unders unders' paint under = under

four-alike : (ink : List ℕ)
    → (slice_index (take 4 ink) 0 ∷ slice_index (take 4 ink) 1 ∷ slice_index (take 4 ink) 2 ∷ slice_index
    (take 4 ink) 3 ∷ []) ≡ (slice_index ink 0 ∷ slice_index ink 1 ∷ slice_index ink 2 ∷ slice_index ink 3
    ∷ [])
four-alike [] = refl
four-alike (c ∷ []) = refl
four-alike (c ∷ m ∷ []) = refl
four-alike (c ∷ m ∷ y ∷ []) = refl
four-alike (c ∷ m ∷ y ∷ k ∷ rest) = refl

painted-alike : (files : List (List ℕ)) (layer : LayerData) (x y : ℕ) (u v : List ℕ) → take 4 u ≡ take 4 v
    → take 4 (painted (layer_of files (process_layer layer)) x y u)
    ≡ take 4 (painted (layer_of files layer) x y v)
painted-alike files layer x y u v same = by_kind layer.line
  where
    by_kind : (line : Bool)
        → take 4 (painted (layer_of files (record layer { line = line; ink = take 4 layer.ink })) x y u)
        ≡ take 4 (painted (layer_of files (record layer { line = line })) x y v)
    by_kind true =
        let here = layer_of files (record layer { line = true }) in
        let there = layer_of files (record layer { line = true; ink = take 4 layer.ink }) in
        shown-alike (covers_column here x && covers_row here y && admits here (column_at here x) (row_at here y)) layer.overprint
        (paint_at there.art (column_at here x) (row_at here y)) (paint_at here.art (column_at here x) (row_at here y)) u v (four-alike layer.ink) same
    by_kind false =
        let here = layer_of files (record layer { line = false }) in
        let paint = paint_at here.art (column_at here x) (row_at here y) in
        shown-alike (covers_column here x && covers_row here y && admits here (column_at here x) (row_at here y)) layer.overprint paint paint u v refl same

layers-alike : (files : List (List ℕ)) (layers : List LayerData) (x y : ℕ) (u v : List ℕ)
    → take 4 u ≡ take 4 v
    → take 4 (fold (λ under layer. painted layer x y under) u
    (map (layer_of files) (map process_layer layers))) ≡ take 4 (fold
    (λ under layer. painted layer x y under) v (map (layer_of files) layers))
layers-alike files [] x y u v same = same
layers-alike files (layer ∷ layers) x y u v same =
    layers-alike files layers x y (painted (layer_of files (process_layer layer)) x y u) (painted (layer_of files layer) x y v) (painted-alike files layer x y u v same)

planned-alike : (plan : PlanData) (page : ℕ)
    → planned_layers (process_plan plan) page ≡ map process_layer (planned_layers plan page)
unfolding process_plan
planned-alike plan page = ap (λ o. option_map_or (λ (p : PageData). p.layers) o []) (slice_get-map process_page plan.pages page) ∙ each (slice_get plan.pages page)
  where
    each : (o : Option PageData)
        → option_map_or (λ (p : PageData). p.layers) (option_map process_page o) []
        ≡ map process_layer (option_map_or (λ (p : PageData). p.layers) o [])
    each None = refl
    each (Some p) = refl

ink-alike : (plan : PlanData) (files : List (List ℕ)) (page x y : ℕ)
    → take 4 (ink_at (layers_of (process_plan plan) files page) x y)
    ≡ take 4 (ink_at (layers_of plan files page) x y)
unfolding ink_at layers_of
ink-alike plan files page x y =
    ap (λ ls. take 4 (fold (λ under layer. painted layer x y under) blank (map (layer_of files) ls))) (planned-alike plan page)
    ∙ layers-alike files (planned_layers plan page) x y blank blank refl

at-alike : (u v : List ℕ) (slot : ℕ) → slot < 4 → take 4 u ≡ take 4 v
    → slice_index u slot ≡ slice_index v slot
at-alike u v slot within same = sym (get_or-take 4 u slot 0 within) ∙ ap (λ xs. slice_index xs slot) same ∙ get_or-take 4 v slot 0 within

toned-alike : (plan : PlanData) (colour spot : Bool) (u v : List ℕ) (ink : Ink) → ink ≢ S
    → take 4 u ≡ take 4 v → toned_ink (process_plan plan) colour spot u ink ≡ toned_ink plan colour spot v ink
unfolding process_plan
toned-alike plan colour spot u v ink other same =
    let within = slot-within ink other in
    ap (λ curve. cond (prints_ink colour spot ink) (curve_value curve (slice_index u (slot_of ink))) 0) (get_or-take {A = CurveData} 4 plan.curves (slot_of ink) [] within)
    ∙ ap (λ value. cond (prints_ink colour spot ink) (toned plan ink value) 0) (at-alike u v (slot_of ink) within same)

limited-alike : (plan : PlanData) (colour spot : Bool) (u v : List ℕ) → take 4 u ≡ take 4 v
    → limited_inks (process_plan plan) colour spot u ≡ limited_inks plan colour spot v
unfolding process_plan
limited-alike plan colour spot u v same =
    limited-same _ _ _ _ _ _ _ _ plan.limit (toned-alike plan colour spot u v C (λ e. cc) same) (toned-alike plan colour spot u v M (λ e. cc) same)
    (toned-alike plan colour spot u v Y (λ e. cc) same) (toned-alike plan colour spot u v K (λ e. cc) same)

printed-alike : (plan : PlanData) (colour spot : Bool) (u v : List ℕ) (ink : Ink) → ink ≢ S
    → take 4 u ≡ take 4 v
    → printed_ink (process_plan plan) colour spot u ink ≡ printed_ink plan colour spot v ink
printed-alike plan colour spot u v C other same = ap (λ values. slice_index values 0) (limited-alike plan colour spot u v same)
printed-alike plan colour spot u v M other same = ap (λ values. slice_index values 1) (limited-alike plan colour spot u v same)
printed-alike plan colour spot u v Y other same = ap (λ values. slice_index values 2) (limited-alike plan colour spot u v same)
printed-alike plan colour spot u v K other same = ap (λ values. slice_index values 3) (limited-alike plan colour spot u v same)
printed-alike plan colour spot u v S other same = absurd (other refl)

value-alike : (plan : PlanData) (files : List (List ℕ)) (page : ℕ) (ink : Ink) (x y : ℕ) → ink ≢ S
    → printed_at (process_plan plan) files page ink x y ≡ printed_at plan files page ink x y
unfolding printed_at
value-alike plan files page ink x y other =
    let inks = ink_at (layers_of (process_plan plan) files page) x y in
    let colour : page_colour (process_plan plan) page ≡ page_colour plan page = unfold process_plan in of_page process_page (λ p. p.colour) plan.pages page (λ p. refl) in
    let spot : page_spot (process_plan plan) page ≡ page_spot plan page = unfold process_plan in of_page process_page (λ p. p.spot) plan.pages page (λ p. refl) in
    ap (λ c. printed_ink (process_plan plan) c (page_spot (process_plan plan) page) inks ink) colour
    ∙ ap (λ s. printed_ink (process_plan plan) (page_colour plan page) s inks ink) spot
    ∙ printed-alike plan (page_colour plan page) (page_spot plan page) inks (ink_at (layers_of plan files page) x y) ink other (ink-alike plan files page x y)

values-alike : (plan : PlanData) (files : List (List ℕ)) (page : ℕ) (ink : Ink) → ink ≢ S
    → page_values (process_plan plan) files page ink ≡ page_values plan files page ink
unfolding page_values process_plan
values-alike plan files page ink other =
    map-same (printed_row (process_plan plan) files page ink) (printed_row plan files page ink) (range_with_len 0 plan.page_height)
    (λ y. map-same (λ x. printed_at (process_plan plan) files page ink x y) (λ x. printed_at plan files page ink x y) (range_with_len 0 plan.page_width) (λ x. value-alike plan files page ink x y other))

bit-alike : (plan : PlanData) (files : List (List ℕ)) (page : ℕ) (ink : Ink) (x y : ℕ) → ink ≢ S
    → page_bit (process_plan plan) files page ink x y ≡ page_bit plan files page ink x y
unfolding page_bit process_plan
bit-alike plan files page ink x y other =
    let screens : screen_of (process_plan plan) ink ≡ screen_of plan ink = get_or-take {A = Screen} 4 plan.screens (slot_of ink) Diffuse (slot-within ink other) in
    ap {A = Screen} (bit_under (process_plan plan) files page ink x y) screens ∙ under (screen_of plan ink)
  where
    under : (screen : Screen)
        → bit_under (process_plan plan) files page ink x y screen ≡ bit_under plan files page ink x y screen
    under (Bayer side) = ap (λ value. tile_bit value (threshold_at side x y)) (value-alike plan files page ink x y other)
    under (Own tile) = ap (λ value. tile_bit value (own_threshold plan tile x y)) (value-alike plan files page ink x y other)
    under Diffuse = ap (λ values. diffused_bit values x y) (values-alike plan files page ink other)

marked-alike : (plan : PlanData) (ink : Ink) (x y : ℕ) → ink ≢ S
    → is_marked_at (process_plan plan) ink x y ≡ is_marked_at plan ink x y
unfolding is_marked_at process_plan
marked-alike plan ink x y other =
    any-map (λ mark. has_ink ink mark && covers x y mark) process_mark (λ mark. has_ink ink mark && covers x y mark) plan.marks
    (λ mark. ap (λ has. has && covers x y mark) (get_or-take {A = Bool} 4 mark.inks (slot_of ink) false (slot-within ink other)))

plate-alike : (plan : PlanData) (files : List (List ℕ)) (left right : ℕ) (ink : Ink) (x y : ℕ) → ink ≢ S
    → plate_bit (process_plan plan) files left right ink x y ≡ plate_bit plan files left right ink x y
unfolding plate_bit process_plan
plate-alike plan files left right ink x y other =
    let shape = shape_of_plate plan in
    let page = λ (page left_x : ℕ). ap (λ bit. covers_pixel plan left_x x y && bit) (bit-alike plan files page ink (x - left_x) (y - shape.top_y) other) in
    ap (λ mark. mark || placed_bit (process_plan plan) files left shape.left_x ink x y || placed_bit (process_plan plan) files right shape.right_x ink x y) (marked-alike plan ink x y other)
    ∙ ap (λ bit. is_marked_at plan ink x y || bit || placed_bit (process_plan plan) files right shape.right_x ink x y) (page left shape.left_x)
    ∙ ap (λ bit. is_marked_at plan ink x y || placed_bit plan files left shape.left_x ink x y || bit) (page right shape.right_x)

row-alike : (plan : PlanData) (files : List (List ℕ)) (left right : ℕ) (ink : Ink) (y : ℕ) → ink ≢ S
    → plate_row (process_plan plan) files left right ink y ≡ plate_row plan files left right ink y
row-alike plan files left right ink y other =
    let width : plate_width (process_plan plan) ≡ plate_width plan = unfold process_plan in refl in
    ap (λ n. packed_row n (λ x. plate_bit (process_plan plan) files left right ink x y)) width
    ∙ ap {A = ℕ → Bool} (λ bits. packed_row (plate_width plan) bits) (fun_ext (λ x. plate-alike plan files left right ink x y other))

-- ---- no row belongs to S

-- an ink that is not S
abbrev IsNotSpot : Ink → Type 0
IsNotSpot ink = ink ≢ S

no_spot : (colour spot : Bool) → spot ≡ false → All IsNotSpot (process_inks colour ++ spot_inks spot)
no_spot colour true none = cc
no_spot true false none =
    let cyan : C ≢ S = λ e. cc in
    let magenta : M ≢ S = λ e. cc in
    let yellow : Y ≢ S = λ e. cc in
    All-cons IsNotSpot C (M ∷ Y ∷ K ∷ []) cyan (All-cons IsNotSpot M (Y ∷ K ∷ []) magenta (All-cons IsNotSpot Y (K ∷ []) yellow black_alone))
  where
    black_alone : All IsNotSpot (K ∷ [])
    black_alone = All-cons IsNotSpot K [] (λ e. cc) (All-nil IsNotSpot)
no_spot false false none = All-cons IsNotSpot K [] (λ e. cc) (All-nil IsNotSpot)

groups_spotless : (plan : PlanData) → IsSpotless plan → All (λ group. group.spot ≡ false) (groups_of plan)
unfolding group_of
groups_spotless plan none =
    all_groups plan (λ group. group.spot ≡ false) (record {
      stays = λ group first here. here;
      each = λ section pair site _ _ _ _. each section pair site;
    })
  where
    each : (section pair site : ℕ)
        → (group_of plan section pair (site_pages plan section pair) site).spot ≡ false
    each section pair site =
        let pages = pages_of (site_pages plan section pair) site in
        ap (λ l. l || page_spot plan pages.1) (none pages.0) ∙ none pages.1

places_spotless : (height index : ℕ) (groups : List Group) → All (λ group. group.spot ≡ false) groups
    → All (λ place. place.ink ≢ S) (flat_map (group_rows height) (enumerate_from index groups))
places_spotless height index [] all = All-nil (λ place. place.ink ≢ S)
places_spotless height index (group ∷ groups) all =
    All-append (λ place. place.ink ≢ S) (group_rows height (index, group)) (flat_map (group_rows height) (enumerate_from (index + 1) groups))
    (all_pieces (λ place. place.ink ≢ S) (λ y. map (place_of index y) (inks_of group)) 0 height
    (λ y low high. All-map (λ place. place.ink ≢ S) (place_of index y) (inks_of group) (no_spot group.colour group.spot (All-head (λ group. group.spot ≡ false) group groups all))))
    (places_spotless height (index + 1) groups (All-tail (λ group. group.spot ≡ false) group groups all))

rows_spotless : (plan : PlanData) → IsSpotless plan → All (λ place. place.ink ≢ S) (row_places plan)
unfolding places_in
rows_spotless plan none = places_spotless (plate_height plan) 0 (groups_of plan) (groups_spotless plan none)

-- ---- two plans

pub plates_alike : (a b : PlanData) (files : List (List ℕ)) → IsSpotless a → SameButSpot a b
    → plate_rows a files ≡ plate_rows b files
unfolding plate_rows
plates_alike a b files none same =
    map-on (λ place. place.ink ≢ S) (row_at_place a files (groups_of a)) (row_at_place b files (groups_of b)) (row_places a) (rows_spotless a none) at
    ∙ ap (map (row_at_place b files (groups_of b))) (places_alike a b same)
  where
    at : (place : RowPlace) → place.ink ≢ S
        → row_at_place a files (groups_of a) place ≡ row_at_place b files (groups_of b) place
    at place other =
        let left = left_of (groups_of b) place.group in
        let right = right_of (groups_of b) place.group in
        ap (λ groups. row_at_place a files groups place) (groups_alike a b same)
        ∙ sym (row-alike a files left right place.ink place.y other)
        ∙ ap {A = PlanData} (λ plan. plate_row plan files left right place.ink place.y) (process_alike a b same)
        ∙ row-alike b files left right place.ink place.y other

pub sites_alike : (a b : PlanData) (files : List (List ℕ)) (out : List ℕ) (site : ℕ) → IsSpotless a
    → SameButSpot a b
    → site_files a (plate_rows a files) out site ≡ site_files b (plate_rows b files) out site
sites_alike a b files out site none same =
    ap (λ rows. site_files a rows out site) (plates_alike a b files none same) ∙ files_alike a b (plate_rows b files) out site same
