-- The values of the inks that are painted.
use Rattle.std.proofs.Common.{◌≡◌, ℕ, suc, ◌<◌, ◌≤◌, ◌&&◌, ◌⊎◌, inl, inr, Bool, true, false, if◌then◌else◌, List, [], ◌∷◌, length, refl, sym, ap, ◌∙◌, arith}
use Rattle.std.specs.List.{fold}
use Rattle.page_layers.specs.declared.layer.Art.{Art}
use Rattle.page_layers.specs.declared.layer.Art.TheVariants.{Contone, Line}
use Rattle.page_layers.specs.declared.layer.Layer.{Layer}
use Rattle.page_layers.specs.declared.page_inks.PageInks.{PageInks}
use Rattle.page_layers.specs.Inks.{Planes, blank, inks_at, laid, laid_value, only, painted_inks}
use Rattle.page_layers.specs.Layer.{admits, column_at, covers_column, covers_row, ink_at, paint_at, painted, row_at}
use Rattle.page_layers.specs.Rows.{IsClearBeside}

-- five values that are equal where their inks are painted
pub only-five : (inks : PageInks) (c m y k s c' m' y' k' s' : ℕ) → (inks.colour ≡ true → c ≡ c') → (inks.colour ≡ true → m ≡ m') → (inks.colour ≡ true → y ≡ y') → k ≡ k' → (inks.spot ≡ true → s ≡ s')
    → only (painted_inks inks) (c ∷ m ∷ y ∷ k ∷ s ∷ []) ≡ only (painted_inks inks) (c' ∷ m' ∷ y' ∷ k' ∷ s' ∷ [])
only-five inks c m y k s c' m' y' k' s' cyan magenta yellow black spot =
    let cyan_is = one inks.colour c c' cyan in
    let magenta_is = one inks.colour m m' magenta in
    let yellow_is = one inks.colour y y' yellow in
    let spot_is = one inks.spot s s' spot in
    cc
  where
    one : (is_painted : Bool) (v v' : ℕ) → (is_painted ≡ true → v ≡ v') → (if is_painted then v else 0) ≡ (if is_painted then v' else 0)
    one true v v' same = same refl
    one false v v' same = refl

-- planes that are clear beside some columns have no painted ink there
pub only-clear : (inks : PageInks) (from to x : ℕ) (row : Planes) → IsClearBeside inks.colour from to row.cyan → IsClearBeside inks.colour from to row.magenta → IsClearBeside inks.colour from to row.yellow
    → IsClearBeside true from to row.black → IsClearBeside inks.spot from to row.spot → ((x < from) ⊎ (to ≤ x)) → only (painted_inks inks) (inks_at row x) ≡ only (painted_inks inks) blank
only-clear inks from to x row c m y k s (inl before) =
    only-five inks _ _ _ _ _ 0 0 0 0 0 (λ on. c.before on x before) (λ on. m.before on x before) (λ on. y.before on x before) (k.before refl x before) (λ on. s.before on x before)
only-clear inks from to x row c m y k s (inr behind) =
    only-five inks _ _ _ _ _ 0 0 0 0 0 (λ on. c.behind on x behind) (λ on. m.behind on x behind) (λ on. y.behind on x behind) (k.behind refl x behind) (λ on. s.behind on x behind)

-- each painted ink after painting depends on the values of the painted inks alone
only-laid : (inks : List Bool) (overprint : Bool) (paints unders : List ℕ) → only inks (laid overprint paints unders) ≡ only inks (laid overprint (only inks paints) (only inks unders))
only-laid [] overprint paints unders = refl
only-laid (is_painted ∷ inks) overprint [] unders = refl
only-laid (is_painted ∷ inks) overprint (paint ∷ paints) [] = refl
only-laid (is_painted ∷ inks) overprint (paint ∷ paints) (under ∷ unders) =
    ap (λ value. value ∷ only inks (laid overprint paints unders)) (one is_painted)
    ∙ ap (λ rest. (if is_painted then laid_value overprint (if is_painted then paint else 0) (if is_painted then under else 0) else 0) ∷ rest) (only-laid inks overprint paints unders)
  where
    one : (is_painted : Bool)
        → (if is_painted then laid_value overprint paint under else 0) ≡ (if is_painted then laid_value overprint (if is_painted then paint else 0) (if is_painted then under else 0) else 0)
    one true = refl
    one false = refl

-- paint that is admitted or not
pub only-laid_if : (inks : List Bool) (overprint shows : Bool) (paints paints' unders unders' : List ℕ) → only inks paints ≡ only inks paints' → only inks unders ≡ only inks unders'
    → only inks (if shows then laid overprint paints unders else unders) ≡ only inks (if shows then laid overprint paints' unders' else unders')
only-laid_if inks overprint true paints paints' unders unders' paint under =
    only-laid inks overprint paints unders
    ∙ ap (λ ps. only inks (laid overprint ps (only inks unders))) paint
    ∙ ap (λ us. only inks (laid overprint (only inks paints') us)) under
    ∙ sym (only-laid inks overprint paints' unders')
only-laid_if inks overprint false paints paints' unders unders' paint under = under

-- a layer over values that are equal in the painted inks
pub only-painted : (inks : List Bool) (layer : Layer) (x y : ℕ) (unders unders' : List ℕ) → only inks unders ≡ only inks unders' → only inks (painted layer x y unders) ≡ only inks (painted layer x y unders')
only-painted inks layer x y unders unders' under =
    let paint = paint_at layer.art (column_at layer x) (row_at layer y) in
    only-laid_if inks layer.overprint (covers_column layer x && covers_row layer y && admits layer (column_at layer x) (row_at layer y)) paint paint unders unders' refl under

-- and all layers of a page
pub only-fold : (inks : List Bool) (layers : List Layer) (x y : ℕ) (unders unders' : List ℕ) → only inks unders ≡ only inks unders'
    → only inks (fold (λ under layer. painted layer x y under) unders layers) ≡ only inks (fold (λ under layer. painted layer x y under) unders' layers)
only-fold inks [] x y unders unders' under = under
only-fold inks (layer ∷ layers) x y unders unders' under =
    only-fold inks layers x y (painted layer x y unders) (painted layer x y unders') (only-painted inks layer x y unders unders' under)

-- ---- all five inks

length-laid : (overprint : Bool) (paints unders : List ℕ) → length paints ≡ length unders → length (laid overprint paints unders) ≡ length unders
length-laid overprint [] [] same = refl
length-laid overprint [] (under ∷ unders) same = same
length-laid overprint (paint ∷ paints) [] same = refl
length-laid overprint (paint ∷ paints) (under ∷ unders) same = ap (λ n. suc n) (length-laid overprint paints unders (omega arith))

length-paint_at : (art : Art) (column row : ℕ) → length (paint_at art column row) ≡ 5
length-paint_at (Contone image) column row = refl
length-paint_at (Line image inks) column row = refl

length-painted : (layer : Layer) (x y : ℕ) (unders : List ℕ) → length unders ≡ 5 → length (painted layer x y unders) ≡ 5
length-painted layer x y unders five = cases (covers_column layer x && covers_row layer y && admits layer (column_at layer x) (row_at layer y))
  where
    cases : (shows : Bool) → length (if shows then laid layer.overprint (paint_at layer.art (column_at layer x) (row_at layer y)) unders else unders) ≡ 5
    cases true = length-laid layer.overprint (paint_at layer.art (column_at layer x) (row_at layer y)) unders (length-paint_at layer.art (column_at layer x) (row_at layer y) ∙ sym five) ∙ five
    cases false = five

length-fold : (layers : List Layer) (x y : ℕ) (unders : List ℕ) → length unders ≡ 5 → length (fold (λ under layer. painted layer x y under) unders layers) ≡ 5
length-fold [] x y unders five = five
length-fold (layer ∷ layers) x y unders five = length-fold layers x y (painted layer x y unders) (length-painted layer x y unders five)

all_of : (values : List ℕ) → length values ≡ 5 → only (true ∷ true ∷ true ∷ true ∷ true ∷ []) values ≡ values
all_of (c ∷ m ∷ y ∷ k ∷ s ∷ []) five = refl
all_of [] five = absurd (omega arith)
all_of (c ∷ []) five = absurd (omega arith)
all_of (c ∷ m ∷ []) five = absurd (omega arith)
all_of (c ∷ m ∷ y ∷ []) five = absurd (omega arith)
all_of (c ∷ m ∷ y ∷ k ∷ []) five = absurd (omega arith)
all_of (c ∷ m ∷ y ∷ k ∷ s ∷ t ∷ rest) five = absurd (omega arith)

-- where all inks are painted, none of a page's ink is left out
pub only-ink_at : (layers : List Layer) (x y : ℕ) → only (true ∷ true ∷ true ∷ true ∷ true ∷ []) (ink_at layers x y) ≡ ink_at layers x y
unfolding ink_at
only-ink_at layers x y = all_of (fold (λ under layer. painted layer x y under) blank layers) (length-fold layers x y blank refl)
