-- What the tests of a job's files establish for each layer, and that a page accepts each layer.
use Rattle.std.proofs.Common.{◌≡◌, ℕ, ◌+◌, ◌<◌, ◌≤◌, Bool, true, false, cond, ◌&&◌, not, List, [], ◌∷◌, length, get_or, refl, ap, sym, ◌∙◌, subst, arith}
use Rattle.std.specs.Prelude.{All, IfSome, Option, Some, None, Result, Ok, Err, nat_eq, nat_lt, nat_le, option_map, option_to_list, slice_index}
use Rattle.std.specs.Option.{ForSome, option_or}
use Rattle.std.specs.Result.{result_err, result_unwrap_or}
use Rattle.std.proofs.lemmas.Bool.Decides.{nat_tests}
use Rattle.std.proofs.lemmas.List.{get_or_default}
use Rattle.std.proofs.lemmas.Option.{get_or_from_slice_get, same_Some, slice_get_within}
use Rattle.std.proofs.lemmas.List.Elements.{All-cons, All-get_or, All-nil}
use Rattle.pr_base.specs.declared.fault.TagFault.{TagFault}
use Rattle.pr_base.specs.declared.fault.FaultKind.{FaultKind}
use Rattle.pr_base.specs.declared.fault.FaultKind.TheVariants as kinds
use Rattle.tif_dir.specs.Directory.{dir_fault, number_at}
use Rattle.tif_dir.specs.Names as tag
use Rattle.tif_strips.specs.declared.shape.Shape.{Shape}
use Rattle.tif_strips.specs.Strips.{strip_fault}
use Rattle.tif_image.specs.declared.usage.BilevelUse.TheVariants as bilevel
use Rattle.tif_image.specs.Fields.{◌>>=◌, ◌>>◌, bits_each, must, no_fault, no_tiles, number_among, number_within}
use Rattle.tif_image.specs.Usage.{depth_of, photometrics_of, samples_of}
use Rattle.tif_image.specs.Image.{BilevelImage, image_fields, ink_fields, shape_of}
use Rattle.page_layers.specs.Layer.{IsLayer}
use Rattle.page_layers.specs.Layer as laid
use Rattle.plan_parts.specs.Data.{LayerData, PageData}
use Rattle.plan_json.specs.Data.{PlanData}
use Rattle.plan_parts.specs.Parts.{IsCrop, IsPage}
use Rattle.plan_parts.specs.Parts as planned
use Rattle.tif_image.specs.declared.usage.Usage.{Usage}
use Rattle.tif_image.specs.declared.usage.Usage.TheVariants.{Bilevel}
use Rattle.pr_base.specs.First.{first_some}
use Rattle.press_job.specs.Fit.{ArePlanned}
use Rattle.press_job.specs.Layers.{art_in, art_of, bilevel_of, bytes_at, crop_of, layer_of, planned_layers, shape_told}
use Rattle.press_job.specs.Tests.{crop_fault, fault_for, fault_of_file, fault_of_layers, fault_where, fit_fault, layer_fault, length_of, mask_fault, mention_fault, page_fault, page_fit_fault, use_of, width_of}
use Rattle.tif_image.specs.declared.usage.BilevelUse.TheVariants.{Mask}
use Rattle.pr_base.specs.Number.{IsWithin}
use Rattle.press_job.proofs.FindingLemmas.{planned_each}

-- a layer's image and mask pass the tests of their uses, and its crop and mask fit the image
pub record PassesTests (files : List (List ℕ)) (layer : LayerData) : Type 0 where
  pub image : fault_for (use_of layer) (bytes_at files layer.file) ≡ None
  pub mask : ForSome layer.mask (λ mask. fault_for (Bilevel Mask) (bytes_at files mask) ≡ None)
  pub fit : fit_fault files layer ≡ None
  pub scale : IsWithin 1 64 layer.scale
  pub crop : ForSome layer.crop IsCrop

-- ---- if there is no result

or_none : {B : Type 0} (a b : Option B) → option_or a b ≡ None → (a ≡ None) × (b ≡ None)
or_none None b none = (refl, none)
or_none (Some x) b none = cc

-- if there is no first result, every result is None
none_each : {A B : Type 0} (f : A → Option B) (xs : List A) → first_some f xs ≡ None
    → All (λ x. f x ≡ None) xs
none_each f [] none = All-nil (λ x. f x ≡ None)
none_each f (x ∷ xs) none = (let both = or_none (f x) (first_some f xs) none in All-cons (λ x. f x ≡ None) x xs both.0 (none_each f xs both.1))

-- ---- the tests of a layer

same_file : (n : ℕ) (o : Option TagFault) → cond {A = Option TagFault} (nat_eq n n) o None ≡ None → o ≡ None
same_file n o none = (let e : nat_eq n n ≡ true = itself n in sym (ap (λ t. cond {A = Option TagFault} t o None) e) ∙ none)
  where
    itself : (n : ℕ) → nat_eq n n ≡ true
    itself n = grind (arith, nat_tests)

-- the tests that a layer's file and its mask pass for their mentions in this layer
mentions_pass : (files : List (List ℕ)) (layer : LayerData)
    → layer_fault layer.file (bytes_at files layer.file) layer ≡ None
    → fault_for (use_of layer) (bytes_at files layer.file) ≡ None
unfolding layer_fault
mentions_pass files layer none =
    same_file layer.file (fault_for (use_of layer) (bytes_at files layer.file))
    (or_none (mention_fault layer.file (bytes_at files layer.file) (layer.file, use_of layer)) _ none).0

mask_passes : (files : List (List ℕ)) (layer : LayerData) (mask : ℕ) → layer.mask ≡ Some mask
    → layer_fault mask (bytes_at files mask) layer ≡ None
    → fault_for (Bilevel bilevel.Mask) (bytes_at files mask) ≡ None
unfolding layer_fault
mask_passes files layer mask there none =
    let bytes = bytes_at files mask in
    let rest = (or_none (mention_fault mask bytes (layer.file, use_of layer)) _ none).1 in
    let at : first_some (mention_fault mask bytes) ((mask, Bilevel bilevel.Mask) ∷ []) ≡ None =
    sym (ap (λ o. first_some (mention_fault mask bytes) (option_to_list (option_map (λ m. (m, Bilevel bilevel.Mask)) o))) there) ∙ rest in
    same_file mask (fault_for (Bilevel bilevel.Mask) bytes) (or_none (mention_fault mask bytes (mask, Bilevel bilevel.Mask)) None at).0

-- each layer of a page of a plan whose files pass
pub layer_passes : (plan : PlanData) (files : List (List ℕ)) (page i : ℕ) (page_item : PageData)
    (item : LayerData) → ArePlanned plan files → page < length plan.pages
    → page_item ≡ get_or plan.pages page page_item → i < length page_item.layers
    → item ≡ get_or page_item.layers i item → PassesTests files item
unfolding fault_of_file fault_of_layers
layer_passes plan files page i page_item item are within page_is below item_is =
    let count = are.count in
    let pages = are.plan_is.pages in
    let on_page : IsPage (length plan.files) page_item =
    subst {A = PageData} (IsPage (length plan.files)) (sym page_is) (All-get_or (IsPage (length plan.files)) plan.pages page page_item within pages) in
    let own : planned.IsLayer (length plan.files) item =
    subst {A = LayerData} (planned.IsLayer (length plan.files)) (sym item_is) (All-get_or (planned.IsLayer (length plan.files)) page_item.layers i item below on_page.layers) in
    let found : (file : ℕ) → file < length files → layer_fault file (bytes_at files file) item ≡ None =
    λ file inside.
    (let bytes = bytes_at files file in
    let all = none_each (page_fault file bytes) plan.pages (are.passed.each file inside) in
    let here : page_fault file bytes page_item ≡ None = ap {A = PageData} (page_fault file bytes) page_is ∙ All-get_or (λ p. page_fault file bytes p ≡ None) plan.pages page page_item within all in
    let layers = none_each (layer_fault file bytes) page_item.layers here in
    ap {A = LayerData} (layer_fault file bytes) item_is ∙ All-get_or (λ l. layer_fault file bytes l ≡ None) page_item.layers i item below layers) in
    let file = own.file in
    let fit_pages = none_each (page_fit_fault files) plan.pages are.fit in
    let fit_here : page_fit_fault files page_item ≡ None = ap {A = PageData} (page_fit_fault files) page_is ∙ All-get_or (λ p. page_fit_fault files p ≡ None) plan.pages page page_item within fit_pages in
    let fit_layers = none_each (fit_fault files) page_item.layers fit_here in
    record {
      image = mentions_pass files item (found item.file (omega arith));
      mask = λ mask there.
          (let inside : mask < length plan.files = at_some item.mask mask there own.mask in
          mask_passes files item mask there (found mask (omega arith)));
      fit = ap {A = LayerData} (fit_fault files) item_is ∙ All-get_or (λ l. fit_fault files l ≡ None) page_item.layers i item below fit_layers;
      scale = own.scale;
      crop = λ crop there. at_crop item.crop crop there own.crop;
    }
  where
    at_some : (o : Option ℕ) (m : ℕ) → o ≡ Some m → IfSome o (λ m. m < length plan.files)
        → m < length plan.files
    at_some o m e h = subst {A = Option ℕ} (λ o. IfSome o (λ m. m < length plan.files)) e h

    at_crop : (o : Option (List ℕ)) (crop : List ℕ) → o ≡ Some crop → IfSome o IsCrop → IsCrop crop
    at_crop o crop e h = subst {A = Option (List ℕ)} (λ o. IfSome o IsCrop) e h

-- each of the plan's layers of a page
pub planned_pass : (plan other : PlanData) (files all : List (List ℕ)) (page i : ℕ) (planned : List LayerData)
    (d : LayerData) → ArePlanned plan files → all ≡ files → other ≡ plan
    → planned ≡ planned_layers other page → i < length planned → PassesTests all (get_or planned i d)
planned_pass plan other files all page i planned d are all_is other_is planned_is within =
    subst {A = List (List ℕ)} (λ fs. PassesTests fs (get_or planned i d)) (sym all_is)
    (planned_each (PassesTests files) plan other page i planned d (λ item there k e below.
    layer_passes plan files page k item (get_or item.layers k e) are (slice_get_within plan.pages page item there) (sym (get_or_from_slice_get plan.pages page item item there)) below
    (get_or_default item.layers k e (get_or item.layers k e) below))
    other_is planned_is within)

-- ---- the sides of an image

bind_ok : {A B : Type 0} (r : Result A TagFault) (rest : A → Result B TagFault) (y : B) → (r >>= rest) ≡ Ok y
    → (x : A) × (r ≡ Ok x) × (rest x ≡ Ok y)
bind_ok (Ok value) rest y is = (value, refl, is)
bind_ok (Err fault) rest y is = cc

then_ok : {A B : Type 0} (r : Result A TagFault) (rest : Result B TagFault) (y : B) → (r >> rest) ≡ Ok y
    → rest ≡ Ok y
then_ok (Ok value) rest y is = is
then_ok (Err fault) rest y is = cc

first_ok : {A B : Type 0} (r : Result A TagFault) (rest : Result B TagFault) (y : B) → (r >> rest) ≡ Ok y
    → (x : A) × (r ≡ Ok x)
first_ok (Ok value) rest y is = (value, refl)
first_ok (Err fault) rest y is = cc

must_ok : (test : Bool) (fault : TagFault) (x : Unit {0}) → must test fault ≡ Ok x → test ≡ true
must_ok true fault x is = refl
must_ok false fault x is = cc

same_Ok : {A : Type 0} (x y : A) → ◌≡◌ {A = Result A TagFault} (Ok x) (Ok y) → x ≡ y
same_Ok x y e = cc

within_ok : (bytes : List ℕ) (at least most : ℕ) (kind : FaultKind) (value : ℕ)
    → number_within bytes at least most kind ≡ Ok value
    → (result_unwrap_or (number_at bytes at 0 1) 0 ≡ value) × (least ≤ value)
unfolding number_within
within_ok bytes at least most kind value is =
    let first = bind_ok {A = ℕ} {B = ℕ} (number_at bytes at 0 1) _ value is in
    let later = then_ok {A = Unit {0}} {B = ℕ} _ (Ok first.0) value first.2 in
    let same : first.0 ≡ value = same_Ok {A = ℕ} first.0 value later in
    let tested = first_ok {A = Unit {0}} {B = ℕ} _ (Ok first.0) value first.2 in
    let passes = must_ok (nat_le least first.0 && nat_le first.0 most) _ tested.0 tested.1 in
    let low = at_least least first.0 most passes in
    (ap (λ (r : Result ℕ TagFault). result_unwrap_or r 0) first.1 ∙ same, omega arith)
  where
    at_least : (least v most : ℕ) → (nat_le least v && nat_le v most) ≡ true → least ≤ v
    at_least least v most h = grind (arith, nat_tests)

-- the sides of a shape are those in the fields, and at least 1
pub record HasSides (bytes : List ℕ) (shape : Shape) : Type 0 where
  pub width : shape.width ≡ width_of bytes
  pub length : shape.length ≡ length_of bytes
  pub wide : 1 ≤ shape.width
  pub long : 1 ≤ shape.length

-- the first tests determine the two sides
sides_from : (first : Result (Unit {0}) TagFault) (w l : Result ℕ TagFault)
    (rest : ℕ → ℕ → Result Shape TagFault) (shape : Shape)
    → ((width length : ℕ) → rest width length ≡ Ok shape → (width ≡ shape.width) × (length ≡ shape.length))
    → (first >> (w >>= (λ width. l >>= (λ length. rest width length)))) ≡ Ok shape
    → (w ≡ Ok shape.width) × (l ≡ Ok shape.length)
sides_from (Err fault) w l rest shape tells is = cc
sides_from (Ok u) (Err fault) l rest shape tells is = cc
sides_from (Ok u) (Ok width) (Err fault) rest shape tells is = cc
sides_from (Ok u) (Ok width) (Ok length) rest shape tells is = (let both = tells width length is in (ap {A = ℕ} Ok both.0, ap {A = ℕ} Ok both.1))

-- the later ones give a shape with these sides
made_from : (a : Result ℕ TagFault) (b : Result (Unit {0}) TagFault) (c d e f g : Result ℕ TagFault)
    (h : Result (Unit {0}) TagFault) (i : Result ℕ TagFault) (make : ℕ → ℕ → ℕ → Shape) (shape : Shape)
    → (a >> (b >> (c >>= (λ x. d >> (e >> (f >> (g >>= (λ y. h >> (i >>= (λ z. Ok (make x y z)))))))))))
    ≡ Ok shape → (x : ℕ) × (y : ℕ) × (z : ℕ) × (make x y z ≡ shape)
made_from (Err fault) b c d e f g h i make shape is = cc
made_from (Ok u) (Err fault) c d e f g h i make shape is = cc
made_from (Ok u) (Ok v) (Err fault) d e f g h i make shape is = cc
made_from (Ok u) (Ok v) (Ok x) (Err fault) e f g h i make shape is = cc
made_from (Ok u) (Ok v) (Ok x) (Ok p) (Err fault) f g h i make shape is = cc
made_from (Ok u) (Ok v) (Ok x) (Ok p) (Ok q) (Err fault) g h i make shape is = cc
made_from (Ok u) (Ok v) (Ok x) (Ok p) (Ok q) (Ok r) (Err fault) h i make shape is = cc
made_from (Ok u) (Ok v) (Ok x) (Ok p) (Ok q) (Ok r) (Ok y) (Err fault) i make shape is = cc
made_from (Ok u) (Ok v) (Ok x) (Ok p) (Ok q) (Ok r) (Ok y) (Ok s) (Err fault) make shape is = cc
made_from (Ok u) (Ok v) (Ok x) (Ok p) (Ok q) (Ok r) (Ok y) (Ok s) (Ok z) make shape is = (x, y, z, same_Ok {A = Shape} (make x y z) shape is)

fields_sides : (usage : Usage) (bytes : List ℕ) (shape : Shape) → image_fields usage bytes ≡ Ok shape
    → HasSides bytes shape
unfolding image_fields
fields_sides usage bytes shape is =
    let make : ℕ → ℕ → ℕ → ℕ → ℕ → Shape = λ width length x y z. record {
      width = width;
      length = length;
      samples = samples_of usage;
      bits = depth_of usage;
      planar = y;
      packed = nat_eq x 32773;
      rows_per_strip = z;
    } in
    let rest : ℕ → ℕ → Result Shape TagFault = λ width length.
    number_among bytes tag.samples_per_pixel (samples_of usage ∷ []) kinds.Samples >> (bits_each bytes (samples_of usage) (depth_of usage) >> (number_among bytes tag.compression (1 ∷ 32773 ∷ []) kinds.Compression >>= (λ x.
    number_among bytes tag.photometric_interpretation (photometrics_of usage) kinds.Photometric >> (number_among bytes tag.fill_order (1 ∷ []) kinds.FillOrder >> (number_among bytes tag.orientation (1 ∷ []) kinds.Orientation
    >> (number_among bytes tag.planar_configuration (1 ∷ 2 ∷ []) kinds.Planar >>= (λ y. ink_fields usage bytes >> (number_within bytes tag.rows_per_strip 1 4294967295 kinds.RowsPerStrip >>= (λ z. Ok (make width length x y z)))))))))) in
    let both = sides_from (no_tiles bytes) (number_within bytes tag.image_width 1 65535 kinds.Width) (number_within bytes tag.image_length 1 65535 kinds.Length) rest shape
    (λ width length h.
    (let all = made_from (number_among bytes tag.samples_per_pixel (samples_of usage ∷ []) kinds.Samples) (bits_each bytes (samples_of usage) (depth_of usage)) (number_among bytes tag.compression (1 ∷ 32773 ∷ []) kinds.Compression)
    (number_among bytes tag.photometric_interpretation (photometrics_of usage) kinds.Photometric) (number_among bytes tag.fill_order (1 ∷ []) kinds.FillOrder) (number_among bytes tag.orientation (1 ∷ []) kinds.Orientation)
    (number_among bytes tag.planar_configuration (1 ∷ 2 ∷ []) kinds.Planar) (ink_fields usage bytes) (number_within bytes tag.rows_per_strip 1 4294967295 kinds.RowsPerStrip) (make width length) shape h in
    (ap {A = Shape} (λ s. s.width) all.3, ap {A = Shape} (λ s. s.length) all.3))) is in
    let width = within_ok bytes tag.image_width 1 65535 kinds.Width shape.width both.0 in
    let length = within_ok bytes tag.image_length 1 65535 kinds.Length shape.length both.1 in
    record { width = sym width.0; length = sym length.0; wide = width.1; long = length.1 }

shape_from : (first : Result (Unit {0}) TagFault) (fields : Result Shape TagFault)
    (strips : Shape → Result (Unit {0}) TagFault) (shape : Shape)
    → (first >> (fields >>= (λ s. strips s >> Ok s))) ≡ Ok shape → fields ≡ Ok shape
shape_from (Err fault) fields strips shape is = cc
shape_from (Ok u) (Err fault) strips shape is = cc
shape_from (Ok u) (Ok s) strips shape is = ap {A = Shape} Ok (kept (strips s) s shape is)
  where
    kept : (test : Result (Unit {0}) TagFault) (s shape : Shape) → (test >> Ok s) ≡ Ok shape → s ≡ shape
    kept (Err fault) s shape is = cc
    kept (Ok u) s shape is = same_Ok {A = Shape} s shape is

pub shape_sides : (usage : Usage) (bytes : List ℕ) (shape : Shape) → shape_of usage bytes ≡ Ok shape
    → HasSides bytes shape
unfolding shape_of
shape_sides usage bytes shape is =
    fields_sides usage bytes shape (shape_from (no_fault (dir_fault bytes)) (image_fields usage bytes) (λ s. no_fault (strip_fault s bytes)) shape is)

told_sides : (usage : Usage) (bytes : List ℕ) → result_err (shape_of usage bytes) ≡ None
    → HasSides bytes (shape_told (shape_of usage bytes))
told_sides usage bytes passes = by_result (shape_of usage bytes) refl passes
  where
    by_result : (r : Result Shape TagFault) → shape_of usage bytes ≡ r → result_err r ≡ None
        → HasSides bytes (shape_told r)
    by_result (Ok shape) is none = shape_sides usage bytes shape is
    by_result (Err fault) is none = cc

-- the image of a layer that passes has the sides in its file's fields
art_sides : (bytes : List ℕ) (layer : LayerData) → fault_for (use_of layer) bytes ≡ None
    → HasSides bytes (laid.shape_of (art_in bytes layer))
art_sides bytes layer passes = by_line layer.line refl
  where
    by_line : (line : Bool) → layer.line ≡ line → HasSides bytes (laid.shape_of (art_in bytes layer))
    by_line true is =
        subst {A = Bool} (λ l. HasSides bytes (laid.shape_of (art_in bytes (record layer { line = l })))) (sym is)
        (told_sides _ bytes (sym (ap {A = Bool} (λ l. fault_for (use_of (record layer { line = l })) bytes) is) ∙ passes))
    by_line false is =
        subst {A = Bool} (λ l. HasSides bytes (laid.shape_of (art_in bytes (record layer { line = l })))) (sym is)
        (told_sides _ bytes (sym (ap {A = Bool} (λ l. fault_for (use_of (record layer { line = l })) bytes) is) ∙ passes))

-- ---- crops and masks

where_none : (test : Bool) (file at : ℕ) (kind : FaultKind) → fault_where test file at kind ≡ None
    → test ≡ false
where_none true file at kind none = cc
where_none false file at kind none = refl

-- a part of an image that lies within it and is not empty
record LiesIn (shape : Shape) (x y width height : ℕ) : Type 0 where
  wide : 1 ≤ width
  high : 1 ≤ height
  columns : x + width ≤ shape.width
  rows : y + height ≤ shape.length

crop_lies : (bytes : List ℕ) (file : ℕ) (shape : Shape) (crop : Option (List ℕ)) → HasSides bytes shape
    → crop_fault file bytes crop ≡ None → ForSome crop IsCrop
    → LiesIn shape (crop_of shape crop).x (crop_of shape crop).y (crop_of shape crop).width
    (crop_of shape crop).height
crop_lies bytes file shape None sides none is =
    let wide = sides.wide in
    let long = sides.long in
    record { wide = wide; high = long; columns = omega arith; rows = omega arith }
crop_lies bytes file shape (Some crop) sides none is =
    let own = is crop refl in
    let both = or_none (fault_where (nat_lt (width_of bytes) (slice_index crop 0 + slice_index crop 2)) file tag.image_width _) _ none in
    let columns = not_above (width_of bytes) (slice_index crop 0 + slice_index crop 2) (where_none _ _ _ _ both.0) in
    let rows = not_above (length_of bytes) (slice_index crop 1 + slice_index crop 3) (where_none _ _ _ _ both.1) in
    let width = sides.width in
    let length = sides.length in
    record { wide = own.width.least; high = own.height.least; columns = omega arith; rows = omega arith }
  where
    not_above : (n m : ℕ) → nat_lt n m ≡ false → m ≤ n
    not_above n m h = grind (arith, nat_tests)

mask_lies : (files : List (List ℕ)) (bytes : List ℕ) (shape : Shape) (mask : ℕ) → HasSides bytes shape
    → mask_fault files bytes (Some mask) ≡ None
    → fault_for (Bilevel bilevel.Mask) (bytes_at files mask) ≡ None
    → ((bilevel_of bilevel.Mask (bytes_at files mask)).shape.width ≡ shape.width)
    × ((bilevel_of bilevel.Mask (bytes_at files mask)).shape.length ≡ shape.length)
mask_lies files bytes shape mask sides none passes =
    let own = told_sides _ (bytes_at files mask) passes in
    let both = or_none (fault_where (not (nat_eq (width_of (bytes_at files mask)) (width_of bytes))) mask tag.image_width _) _ none in (
      own.width ∙ same (width_of (bytes_at files mask)) (width_of bytes) (where_none _ _ _ _ both.0) ∙ sym sides.width,
      own.length ∙ same (length_of (bytes_at files mask)) (length_of bytes) (where_none _ _ _ _ both.1) ∙ sym sides.length,
    )
  where
    same : (n m : ℕ) → not (nat_eq n m) ≡ false → n ≡ m
    same n m h = grind (arith, nat_tests)

-- a mask that passes has the sides of the image
mask_of : (files : List (List ℕ)) (layer : LayerData) (shape : Shape) (mask : Option ℕ) (image : BilevelImage)
    → HasSides (bytes_at files layer.file) shape
    → mask_fault files (bytes_at files layer.file) mask ≡ None
    → ForSome mask (λ m. fault_for (Bilevel bilevel.Mask) (bytes_at files m) ≡ None)
    → option_map (λ m. bilevel_of bilevel.Mask (bytes_at files m)) mask ≡ Some image
    → (image.shape.width ≡ shape.width) × (image.shape.length ≡ shape.length)
mask_of files layer shape None image sides none passes there = cc
mask_of files layer shape (Some mask) image sides none passes there =
    let both = mask_lies files (bytes_at files layer.file) shape mask sides none (passes mask refl) in
    let same = same_Some (bilevel_of bilevel.Mask (bytes_at files mask)) image there in
    (sym (ap {A = BilevelImage} (λ i. i.shape.width) same) ∙ both.0, sym (ap {A = BilevelImage} (λ i. i.shape.length) same) ∙ both.1)

-- a page accepts a layer that passes
pub layer_fits : (files : List (List ℕ)) (layer : LayerData) → PassesTests files layer
    → IsLayer (layer_of files layer)
unfolding fit_fault
layer_fits files layer passes =
    let bytes = bytes_at files layer.file in
    let shape = laid.shape_of (art_of files layer) in
    let sides = art_sides bytes layer passes.image in
    let both = or_none (crop_fault layer.file bytes layer.crop) (mask_fault files bytes layer.mask) passes.fit in
    let lies = crop_lies bytes layer.file shape layer.crop sides both.0 passes.crop in
    record {
      wide = lies.wide;
      high = lies.high;
      columns = lies.columns;
      rows = lies.rows;
      scaled = passes.scale.least;
      scale = passes.scale.most;
      mask_width = λ image there. (mask_of files layer shape layer.mask image sides both.1 passes.mask there).0;
      mask_length = λ image there. (mask_of files layer shape layer.mask image sides both.1 passes.mask there).1;
    }
