-- What a plate prints, as a function of its recipe, and proofs that its plan and files print the same.
use Rattle.std.proofs.Common.{◌≡◌, ℕ, zero, suc, ◌+◌, ◌-◌, ◌<◌, Bool, List, [], ◌∷◌, length, map, get_or, Option, Some, None, refl, ap, ◌∙◌, arith}
use Rattle.std.specs.Prelude.{Contains, ◌&&◌, ◌||◌, if◌then◌else◌, slice_get, slice_index, slice_index_or, option_map}
use Rattle.std.specs.List.{list_any, range_with_len}
use Rattle.std.specs.Option.{option_map_or}
use Rattle.pr_base.specs.Bits.{packed_row}
use Rattle.pr_base.specs.declared.ink.Ink.{Ink}
use Rattle.pr_base.specs.declared.ink.Ink.TheVariants.{C, M, Y, K, S}
use Rattle.page_layers.specs.declared.layer.Art.{Art}
use Rattle.page_layers.specs.declared.layer.Art.TheVariants.{Contone, Line}
use Rattle.page_layers.specs.declared.layer.Layer.{Layer}
use Rattle.page_layers.specs.Layer.{ink_at, shape_of}
use Rattle.page_tone.specs.Curve.{curve_value}
use Rattle.page_tone.specs.Limit.{limited}
use Rattle.scr_tile.specs.Tile.{threshold_at, tile_bit}
use Rattle.scr_tile.specs.AnyTile.{threshold_of}
use Rattle.scr_tile.specs.declared.any_tile.AnyTile.TheVariants as tile_kinds
use Rattle.scr_diffuse.specs.Diffusion.{diffused_bit}
use Rattle.tif_image.specs.declared.usage.BilevelUse.TheVariants as usage
use Rattle.tif_image.specs.Image.{contone_shape}
use Rattle.tif_plate.specs.Plate.{plate_file}
use Rattle.plan_parts.specs.declared.printing.Screen.{Screen}
use Rattle.plan_parts.specs.declared.printing.Screen.TheVariants as screens
use Rattle.plan_parts.specs.Data.{LayerData}
use Rattle.plan_json.specs.Data.{PlanData, height_over, plate_height, plate_width, width_over}
use Rattle.plan_json.specs.Plan.{IsPlan}
use Rattle.pr_base.specs.Ink.{slot_of}
use Rattle.plan_pages.specs.Plate.{covers, has_ink, is_marked_at}
use Rattle.plan_pages.specs.Span.{in_span}
use Rattle.plan_rows.specs.declared.group.Group.{Group}
use Rattle.plan_rows.specs.Groups.{groups_of, page_colour, page_spot}
use Rattle.plan_rows.specs.Inks.{inks_of}
use Rattle.plan_rows.specs.Rows.{place_of, row_number, row_places}
use Rattle.plan_rows.proofs.InkLemmas.{has_ink-in}
use Rattle.plan_rows.proofs.Places.{row_placed}
use Rattle.press_job.specs.Layers.{bilevel_of, bytes_at, crop_of, layer_of, layers_of, planned_layers, shape_told}
use Rattle.press_job.specs.Printing.{bit_under, page_bit, page_values, printed_at, printed_ink, prints_ink, screen_of}
use Rattle.press_job.specs.Rows.{plate_bit, plate_row, plate_rows, row_at_place}
use Rattle.replate.specs.Inputs.{JobData}
use Rattle.replate.specs.Picks.{recipe_at}
use Rattle.replate.specs.Plates.{IsPlateOf, PlateAt, group_at}
use Rattle.replate.specs.Recipe.{LayerRecipe, PageRecipe, Recipe, ScreenRecipe, Bayer, Diffuse, Own, file_at, layer_recipe, page_recipe, recipe_of, screen_recipe, settings_of}
use Rattle.replate_law.specs.Law.{bytes_of_plate}

-- ---- layers

abbrev art_by : LayerRecipe → Art
art_by layer =
    if layer.rest.line then Line (bilevel_of usage.Line layer.image) layer.rest.ink
    else Contone (record { shape = shape_told (contone_shape layer.image); bytes = layer.image })

abbrev layer_by : LayerRecipe → Layer
layer_by layer = record {
  art = art_by layer;
  mask = option_map (bilevel_of usage.Mask) layer.mask;
  x = layer.rest.x;
  y = layer.rest.y;
  scale = layer.rest.scale;
  crop = crop_of (shape_of (art_by layer)) layer.rest.crop;
  overprint = layer.rest.overprint;
}

mask_is : (files : List (List ℕ)) (mask : Option ℕ) → option_map (λ m. bilevel_of usage.Mask (bytes_at files m)) mask ≡ option_map (bilevel_of usage.Mask) (option_map (file_at files) mask)
mask_is files None = refl
mask_is files (Some m) = refl

layer_is : (files : List (List ℕ)) (layer : LayerData) → layer_of files layer ≡ layer_by (layer_recipe files layer)
layer_is files layer = let mask = mask_is files layer.mask in λ i. record (layer_of files layer) { mask = mask i }

layers_are : (files : List (List ℕ)) (layers : List LayerData) → map (layer_of files) layers ≡ map layer_by (map (layer_recipe files) layers)
layers_are files [] = refl
layers_are files (layer ∷ layers) = let one = layer_is files layer in let rest = layers_are files layers in λ i. one i ∷ rest i

-- ---- values

abbrev toned_by : PlanData → Bool → Bool → List ℕ → Ink → ℕ
toned_by s colour spot inks ink =
    if prints_ink colour spot ink then curve_value (slice_index_or s.curves (slot_of ink) []) (slice_index inks (slot_of ink)) else 0

abbrev limited_by : PlanData → Bool → Bool → List ℕ → List ℕ
limited_by s colour spot inks =
    let value = toned_by s colour spot inks in
    limited (value C) (value M) (value Y) (value K) s.limit

abbrev printed_by : PlanData → Bool → Bool → List ℕ → Ink → ℕ
printed_by s colour spot inks C = slice_index (limited_by s colour spot inks) 0
printed_by s colour spot inks M = slice_index (limited_by s colour spot inks) 1
printed_by s colour spot inks Y = slice_index (limited_by s colour spot inks) 2
printed_by s colour spot inks K = slice_index (limited_by s colour spot inks) 3
printed_by s colour spot inks S = toned_by s colour spot inks S

printed_is : (plan : PlanData) (colour spot : Bool) (inks : List ℕ) (ink : Ink) → printed_ink plan colour spot inks ink ≡ printed_by (settings_of plan) colour spot inks ink
printed_is plan colour spot inks C = refl
printed_is plan colour spot inks M = refl
printed_is plan colour spot inks Y = refl
printed_is plan colour spot inks K = refl
printed_is plan colour spot inks S = refl

abbrev value_by : PlanData → PageRecipe → Ink → ℕ → ℕ → ℕ
value_by s page ink x y = printed_by s page.colour page.spot (ink_at (map layer_by page.layers) x y) ink

value_is : (plan : PlanData) (files : List (List ℕ)) (page : ℕ) (ink : Ink) (x y : ℕ)
    → printed_at plan files page ink x y ≡ value_by (settings_of plan) (page_recipe plan files page) ink x y
unfolding printed_at layers_of page_recipe
value_is plan files page ink x y =
    ap (λ layers. printed_ink plan (page_colour plan page) (page_spot plan page) (ink_at layers x y) ink) (layers_are files (planned_layers plan page))
    ∙ printed_is plan (page_colour plan page) (page_spot plan page) (ink_at (map layer_by (map (layer_recipe files) (planned_layers plan page))) x y) ink

abbrev values_by : PlanData → PageRecipe → Ink → List (List ℕ)
values_by s page ink = map (λ y. map (λ x. value_by s page ink x y) (range_with_len 0 s.page_width)) (range_with_len 0 s.page_height)

values_are : (plan : PlanData) (files : List (List ℕ)) (page : ℕ) (ink : Ink) → page_values plan files page ink ≡ values_by (settings_of plan) (page_recipe plan files page) ink
unfolding page_values
values_are plan files page ink = λ i. map (λ y. map (λ x. value_is plan files page ink x y i) (range_with_len 0 plan.page_width)) (range_with_len 0 plan.page_height)

-- ---- bits

abbrev bit_by : PlanData → PageRecipe → Ink → ℕ → ℕ → ScreenRecipe → Bool
bit_by s page ink x y (Bayer side) = tile_bit (value_by s page ink x y) (threshold_at side x y)
bit_by s page ink x y Diffuse = diffused_bit (values_by s page ink) x y
bit_by s page ink x y (Own width height at) =
    tile_bit (value_by s page ink x y) (threshold_of (tile_kinds.Own (record { width = width; height = height; at = at })) x y)

bit_is : (plan : PlanData) (files : List (List ℕ)) (page : ℕ) (ink : Ink) (x y : ℕ) (screen : Screen)
    → bit_under plan files page ink x y screen ≡ bit_by (settings_of plan) (page_recipe plan files page) ink x y (screen_recipe plan screen)
bit_is plan files page ink x y (screens.Bayer side) = ap (λ v. tile_bit v (threshold_at side x y)) (value_is plan files page ink x y)
bit_is plan files page ink x y screens.Diffuse = ap (λ vs. diffused_bit vs x y) (values_are plan files page ink)
bit_is plan files page ink x y (screens.Own tile) =
    let it = slice_index_or plan.tiles tile (record { name = []; width = 0; height = 0; at = [] }) in
    ap (λ v. tile_bit v (threshold_of (tile_kinds.Own (record { width = it.width; height = it.height; at = it.at })) x y)) (value_is plan files page ink x y)

page_bit_is : (plan : PlanData) (files : List (List ℕ)) (page : ℕ) (ink : Ink) (x y : ℕ)
    → page_bit plan files page ink x y ≡ bit_by (settings_of plan) (page_recipe plan files page) ink x y (screen_recipe plan (screen_of plan ink))
unfolding page_bit
page_bit_is plan files page ink x y = bit_is plan files page ink x y (screen_of plan ink)

-- ---- plates

abbrev placed_by : PlanData → ScreenRecipe → PageRecipe → ℕ → Ink → ℕ → ℕ → Bool
placed_by s screen page left_x ink x y =
    let top_y = slice_index s.margins 1 in
    (in_span left_x (left_x + s.page_width) x && in_span top_y (top_y + s.page_height) y) && bit_by s page ink (x - left_x) (y - top_y) screen

abbrev plate_bit_by : Recipe → Ink → ℕ → ℕ → Bool
plate_bit_by r ink x y =
    let s = r.settings in
    (list_any (λ mark. has_ink ink mark && covers x y mark) s.marks || placed_by s r.screen r.left (slice_index s.margins 0) ink x y)
    || placed_by s r.screen r.right (slice_index s.margins 0 + s.page_width + s.gutter) ink x y

plate_bit_is : (plan : PlanData) (files : List (List ℕ)) (left right : ℕ) (ink : Ink) (x y : ℕ)
    → plate_bit plan files left right ink x y ≡ plate_bit_by (recipe_of plan files left right ink) ink x y
unfolding plate_bit is_marked_at recipe_of
plate_bit_is plan files left right ink x y =
    let top_y = slice_index plan.margins 1 in
    let left_x = slice_index plan.margins 0 in
    let right_x = slice_index plan.margins 0 + plan.page_width + plan.gutter in
    let one = page_bit_is plan files left ink (x - left_x) (y - top_y) in
    let two = page_bit_is plan files right ink (x - right_x) (y - top_y) in
    λ i. (list_any (λ mark. has_ink ink mark && covers x y mark) plan.marks
    || ((in_span left_x (left_x + plan.page_width) x && in_span top_y (top_y + plan.page_height) y) && one i))
    || ((in_span right_x (right_x + plan.page_width) x && in_span top_y (top_y + plan.page_height) y) && two i)

abbrev row_by : Recipe → Ink → ℕ → List ℕ
row_by r ink y = packed_row (width_over r.settings.margins r.settings.page_width r.settings.gutter) (λ x. plate_bit_by r ink x y)

row_is : (plan : PlanData) (files : List (List ℕ)) (left right : ℕ) (ink : Ink) (y : ℕ) → plate_row plan files left right ink y ≡ row_by (recipe_of plan files left right ink) ink y
unfolding recipe_of
row_is plan files left right ink y = λ i. packed_row (plate_width plan) (λ x. plate_bit_is plan files left right ink x y i)

-- ---- files

-- the file of a plate, as a function of its recipe
abbrev pub file_by : Recipe → Ink → List ℕ
file_by r ink =
    plate_file (width_over r.settings.margins r.settings.page_width r.settings.gutter) r.settings.dpi
    (map (row_by r ink) (range_with_len 0 (height_over r.settings.margins r.settings.page_height)))

there : {X : Type 0} (xs : List X) (i : ℕ) (d : X) → i < length xs → slice_get xs i ≡ Some (get_or xs i d)
there [] i d within = absurd (omega arith)
there (x ∷ xs) zero d within = refl
there (x ∷ xs) (suc i) d within = there xs i d (omega arith)

mapped : {X Y : Type 0} (f : X → Y) (xs : List X) (i : ℕ) (x : X) (d : Y) → slice_get xs i ≡ Some x → get_or (map f xs) i d ≡ f x
mapped f [] i x d is = absurd cc
mapped f (z ∷ xs) zero x d is = (let same : z ≡ x = cc in ap f same)
mapped f (z ∷ xs) (suc i) x d is = mapped f xs i x d is

along_range : {X : Type 0} (f g : ℕ → X) (a n : ℕ) → ((k : ℕ) → k < a + n → f k ≡ g k) → map f (range_with_len a n) ≡ map g (range_with_len a n)
along_range f g a zero same = refl
along_range f g a (suc n) same =
    let one = same a (omega arith) in
    let rest = along_range f g (a + 1) n (λ k low. same k (omega arith)) in
    λ i. one i ∷ rest i

row_at : (plan : PlanData) (files : List (List ℕ)) (index y : ℕ) (ink : Ink) → IsPlan plan → index < length (groups_of plan) → y < plate_height plan → Contains (inks_of (group_at plan index)) ink
    → get_or (plate_rows plan files) (row_number (group_at plan index) y ink) [] ≡ plate_row plan files (group_at plan index).left (group_at plan index).right ink y
unfolding plate_rows
row_at plan files index y ink is within low printed =
    let group = group_at plan index in
    let groups = groups_of plan in
    let of : slice_get groups index ≡ Some group = there groups index _ within in
    let place = row_placed plan (row_number group y ink) index group y ink is (record { of = of; top = low; printed = printed; number = refl }) in
    mapped (row_at_place plan files groups) (row_places plan) (row_number group y ink) (place_of index y ink) [] place
    ∙ ap {A = Option Group} (λ o. plate_row plan files (option_map_or (λ g. g.left) o 0) (option_map_or (λ g. g.right) o 0) ink y) of

pub file_is : (job : JobData) (plate : PlateAt) → IsPlan job.plan → IsPlateOf job.plan plate → bytes_of_plate job plate ≡ file_by (recipe_at job plate) plate.ink
unfolding recipe_of
file_is job plate is of =
    let plan = job.plan in
    let group = group_at plan plate.group in
    let rows = along_range (λ y. get_or (plate_rows plan job.files) (row_number group y plate.ink) []) (row_by (recipe_at job plate) plate.ink) 0 (plate_height plan)
    (λ y low. row_at plan job.files plate.group y plate.ink is of.group (omega arith) (has_ink-in group plate.ink of.of_ink) ∙ row_is plan job.files group.left group.right plate.ink y) in
    ap (λ all. plate_file (plate_width plan) plan.dpi all) rows
