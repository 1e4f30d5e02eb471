-- A layer painted over a row of the page, pixel by pixel.
use Rattle.std.proofs.Common.{◌≡◌, ℕ, ◌+◌, ◌-◌, ◌*◌, ◌/◌, ◌<◌, ◌≤◌, ◌&&◌, Bool, true, false, nat_le, nat_lt, if◌then◌else◌, List, [], ◌∷◌, length, get_or, Option, Some, None, inl, inr, refl, sym, ap, ◌∙◌, arith}
use Rattle.std.proofs.lemmas.Bool.{cases_lt, le-leb, lt-leb, lt-ltb, le-ltb}
use Rattle.tif_image.specs.Image.{BilevelImage}
use Rattle.page_layers.specs.declared.layer.Art.{Art}
use Rattle.page_layers.specs.declared.layer.Art.TheVariants.{Contone, Line}
use Rattle.page_layers.specs.declared.layer.Layer.{Layer}
use Rattle.page_paint.specs.declared.lay.Painting.{Painting}
use Rattle.page_paint.specs.declared.lay.Painting.TheVariants.{Whole, Knockout, Overprint}
use Rattle.page_layers.specs.declared.page_inks.PageInks.{PageInks}
use Rattle.page_layers.specs.Inks.{Planes, blank, inks_at, laid, laid_value, only, painted_inks}
use Rattle.page_layers.specs.Layer.{admits, column_at, covers_column, covers_row, paint_at, painted, paints_at, row_at, shows_through}
use Rattle.page_layers.specs.Page.{shows_on}
use Rattle.page_paint.specs.Rows.{LaysSpan, laid_where, painted_as}
use Rattle.page_layers.specs.Rows.{IsExpanded, bare_art, is_bare, no_mask, painting_of, span_of}
use Rattle.page_layers.proofs.Only.{only-five, only-laid_if}

-- each pixel of a contone layer without a mask shows
bare_admits : (mask : Option BilevelImage) (art : Art) (column row : ℕ) → (if no_mask mask then bare_art art else false) ≡ true → (paints_at art column row && shows_through mask column row) ≡ true
bare_admits None (Contone image) column row bare = refl
bare_admits None (Line image inks) column row bare = absurd (cc)
bare_admits (Some mask) (Contone image) column row bare = absurd (cc)
bare_admits (Some mask) (Line image inks) column row bare = absurd (cc)

-- one ink, painted in the layer's way
laid_ink : (overprint bare admitted : Bool) (paint under : ℕ) → (bare ≡ true → admitted ≡ true)
    → laid_where (if overprint then Overprint else if bare then Whole else Knockout) (if admitted then 255 else 0) paint under ≡ (if admitted then laid_value overprint paint under else under)
laid_ink true bare true paint under all = refl
laid_ink true bare false paint under all = refl
laid_ink false true true paint under all = refl
laid_ink false true false paint under all = absurd (cc (all refl))
laid_ink false false true paint under all = refl
laid_ink false false false paint under all = refl

-- five inks, painted where they are admitted
laid_inks : (overprint admitted : Bool) (c m y k s c' m' y' k' s' : ℕ)
    → (if admitted then laid_value overprint c c' else c') ∷ (if admitted then laid_value overprint m m' else m') ∷ (if admitted then laid_value overprint y y' else y')
    ∷ (if admitted then laid_value overprint k k' else k') ∷ (if admitted then laid_value overprint s s' else s') ∷ []
    ≡ (if admitted then laid overprint (c ∷ m ∷ y ∷ k ∷ s ∷ []) (c' ∷ m' ∷ y' ∷ k' ∷ s' ∷ []) else c' ∷ m' ∷ y' ∷ k' ∷ s' ∷ [])
laid_inks overprint true c m y k s c' m' y' k' s' = refl
laid_inks overprint false c m y k s c' m' y' k' s' = refl

-- a layer that shows on a row has a row of the image there
pub shown_row : (width : ℕ) (layer : Layer) (y : ℕ) → shows_on width layer y ≡ true → covers_row layer y ≡ true
shown_row width layer y shows = second (nat_lt layer.x width) (covers_row layer y) shows
  where
    second : (a b : Bool) → (a && b) ≡ true → b ≡ true
    second true b is = is
    second false b is = absurd (cc)

-- a pixel that the layer covers
covered : (layer : Layer) (x y : ℕ) (under : List ℕ) → covers_column layer x ≡ true → covers_row layer y ≡ true
    → painted layer x y under ≡ (if admits layer (column_at layer x) (row_at layer y) then laid layer.overprint (paint_at layer.art (column_at layer x) (row_at layer y)) under else under)
covered layer x y under column row = rw (column, row) refl

-- a pixel that it does not cover
pub uncovered : (layer : Layer) (x y : ℕ) (under : List ℕ) → (covers_column layer x && covers_row layer y) ≡ false → painted layer x y under ≡ under
uncovered layer x y under none = rw none refl

together : (a b : Bool) → a ≡ true → b ≡ true → (a && b) ≡ true
together true b a_is b_is = b_is
together false b a_is b_is = absurd (cc)

-- the columns that a layer covers
inside_column : (layer : Layer) (width j : ℕ) → j < span_of width layer → covers_column layer (layer.x + j) ≡ true
inside_column layer width j inside =
    together _ _ (le-leb layer.x (layer.x + j) (omega arith)) (lt-ltb (layer.x + j) (layer.x + layer.crop.width * layer.scale) (omega arith))

column_is : (layer : Layer) (j : ℕ) → column_at layer (layer.x + j) ≡ layer.crop.x + j / layer.scale
column_is layer j = let back : layer.x + j - layer.x ≡ j = omega arith in ap (λ k. layer.crop.x + k / layer.scale) back

left_of_it : (layer : Layer) (x : ℕ) → x < layer.x → covers_column layer x ≡ false
left_of_it layer x before = ap (λ within. within && nat_lt x (layer.x + layer.crop.width * layer.scale)) (lt-leb layer.x x before)

right_of_it : (layer : Layer) (width x : ℕ) → x < width → layer.x + span_of width layer ≤ x → covers_column layer x ≡ false
right_of_it layer width x within behind =
    ap (λ under. nat_le layer.x x && under) (le-ltb x (layer.x + layer.crop.width * layer.scale) (omega arith)) ∙ false_behind (nat_le layer.x x)
  where
    false_behind : (b : Bool) → (b && false) ≡ false
    false_behind true = refl
    false_behind false = refl

-- a layer that starts to the right of the page
pub right_of_page : (layer : Layer) (width x : ℕ) → x < width → width ≤ layer.x → covers_column layer x ≡ false
right_of_page layer width x within beside = left_of_it layer x (omega arith)

-- a row of the page on which the layer shows, with its paint over the ink below
pub painted-row : (inks : PageInks) (layer : Layer) (width y : ℕ) (painting : Painting) (paint : Planes) (admitted : List ℕ) (old new : Planes) → painting ≡ painting_of layer → length admitted ≡ span_of width layer
    → covers_row layer y ≡ true → IsExpanded inks layer (row_at layer y) (span_of width layer) paint admitted
    → LaysSpan (painted_as inks.colour painting) layer.x paint.cyan admitted old.cyan new.cyan → LaysSpan (painted_as inks.colour painting) layer.x paint.magenta admitted old.magenta new.magenta
    → LaysSpan (painted_as inks.colour painting) layer.x paint.yellow admitted old.yellow new.yellow → LaysSpan painting layer.x paint.black admitted old.black new.black
    → LaysSpan (painted_as inks.spot painting) layer.x paint.spot admitted old.spot new.spot
    → (x : ℕ) → x < width → only (painted_inks inks) (inks_at new x) ≡ only (painted_inks inks) (painted layer x y (inks_at old x))
painted-row inks layer width y painting paint admitted old new painting_is long row expanded cyan magenta yellow black spot x within =
    elim (cases_lt x layer.x) [
      | inl before ↦ same (cyan.before x before) (magenta.before x before) (yellow.before x before) (black.before x before) (spot.before x before) (left_of_it layer x before)
      | inr from ↦
          elim (cases_lt (x - layer.x) (span_of width layer)) [
            | inl inside ↦
                let place : layer.x + (x - layer.x) ≡ x = omega arith in
                rw place at (here (x - layer.x) inside)
            | inr outside ↦
                let behind : layer.x + length admitted ≤ x = omega arith in
                same (cyan.behind x behind) (magenta.behind x behind) (yellow.behind x behind) (black.behind x behind) (spot.behind x behind)
                (right_of_it layer width x within (omega arith))
          ]
    ]
  where
    same : get_or new.cyan x 0 ≡ get_or old.cyan x 0 → get_or new.magenta x 0 ≡ get_or old.magenta x 0 → get_or new.yellow x 0 ≡ get_or old.yellow x 0
        → get_or new.black x 0 ≡ get_or old.black x 0 → get_or new.spot x 0 ≡ get_or old.spot x 0 → covers_column layer x ≡ false
        → only (painted_inks inks) (inks_at new x) ≡ only (painted_inks inks) (painted layer x y (inks_at old x))
    same c m y' k s none =
        let five : inks_at new x ≡ inks_at old x = cc in
        ap (only (painted_inks inks)) (five ∙ sym (uncovered layer x y (inks_at old x) (ap (λ under. under && covers_row layer y) none)))

    here : (j : ℕ) → j < span_of width layer → only (painted_inks inks) (inks_at new (layer.x + j)) ≡ only (painted_inks inks) (painted layer (layer.x + j) y (inks_at old (layer.x + j)))
    here j inside =
        let at = layer.crop.x + j / layer.scale in
        let shows = admits layer at (row_at layer y) in
        let under : j < length admitted = omega arith in
        let way : (paint under : ℕ) → laid_where painting (get_or admitted j 0) paint under ≡ (if shows then laid_value layer.overprint paint under else under) =
        λ paint under. ap (λ p. laid_where p (get_or admitted j 0) paint under) painting_is ∙ ap (λ a. laid_where (painting_of layer) a paint under) (expanded.admits_is.each j inside)
        ∙ laid_ink layer.overprint (is_bare layer) shows paint under (λ bare. bare_admits layer.mask layer.art at (row_at layer y) bare) in
        let laid_in : (is_painted : Bool) (paint under : ℕ) → is_painted ≡ true → laid_where (painted_as is_painted painting) (get_or admitted j 0) paint under ≡ (if shows then laid_value layer.overprint paint under else under) =
        λ is_painted paint under on. ap (λ it. laid_where (painted_as it painting) (get_or admitted j 0) paint under) on ∙ way paint under in
        let five = laid_inks layer.overprint shows (get_or paint.cyan j 0) (get_or paint.magenta j 0) (get_or paint.yellow j 0) (get_or paint.black j 0) (get_or paint.spot j 0)
        (get_or old.cyan (layer.x + j) 0) (get_or old.magenta (layer.x + j) 0) (get_or old.yellow (layer.x + j) 0) (get_or old.black (layer.x + j) 0) (get_or old.spot (layer.x + j) 0) in
        let whole = covered layer (layer.x + j) y (inks_at old (layer.x + j)) (inside_column layer width j inside) row in
        only-five inks _ _ _ _ _ _ _ _ _ _ (λ on. cyan.inside j under ∙ laid_in inks.colour _ _ on) (λ on. magenta.inside j under ∙ laid_in inks.colour _ _ on) (λ on. yellow.inside j under ∙ laid_in inks.colour _ _ on)
        (black.inside j under ∙ way _ _) (λ on. spot.inside j under ∙ laid_in inks.spot _ _ on)
        ∙ ap (only (painted_inks inks)) five
        ∙ only-laid_if (painted_inks inks) layer.overprint shows (inks_at paint j) (paint_at layer.art at (row_at layer y)) (inks_at old (layer.x + j)) (inks_at old (layer.x + j)) (expanded.paint_is.each j inside) refl
        ∙ ap (λ column. only (painted_inks inks) (if admits layer column (row_at layer y) then laid layer.overprint (paint_at layer.art column (row_at layer y)) (inks_at old (layer.x + j)) else inks_at old (layer.x + j))) (sym (column_is layer j))
        ∙ ap (only (painted_inks inks)) (sym whole)

-- a layer that is painted whole knocks out, and each of its pixels shows
whole_is : (overprint bare : Bool) → (if overprint then Overprint else if bare then Whole else Knockout) ≡ Whole → (overprint ≡ false) × (bare ≡ true)
whole_is false true is = (refl, refl)
whole_is false false is = absurd (cc)
whole_is true true is = absurd (cc)
whole_is true false is = absurd (cc)

-- so the ink below it does not matter
knocked_out : (art : Art) (column row x : ℕ) (under : Planes) → laid false (paint_at art column row) (inks_at under x) ≡ laid false (paint_at art column row) blank
knocked_out (Contone image) column row x under = refl
knocked_out (Line image inks) column row x under = refl

pub covers_all : (layer : Layer) (width x y : ℕ) (painting : Painting) (admitted : List ℕ) (under : Planes) → painting ≡ painting_of layer → painting ≡ Whole → length admitted ≡ span_of width layer
    → shows_on width layer y ≡ true → layer.x ≤ x → x < layer.x + length admitted → painted layer x y (inks_at under x) ≡ painted layer x y blank
covers_all layer width x y painting admitted under painting_is whole long shows from within =
    let both = whole_is layer.overprint (is_bare layer) (sym painting_is ∙ whole) in
    let place : layer.x + (x - layer.x) ≡ x = omega arith in
    let column : covers_column layer x ≡ true = rw place at (inside_column layer width (x - layer.x) (omega arith)) in
    let row = shown_row width layer y shows in
    let at = column_at layer x in
    let all : admits layer at (row_at layer y) ≡ true = bare_admits layer.mask layer.art at (row_at layer y) both.1 in
    let on : (ink : List ℕ) → painted layer x y ink ≡ laid false (paint_at layer.art at (row_at layer y)) ink = λ ink.
    covered layer x y ink column row ∙ ap (λ shows. if shows then laid layer.overprint (paint_at layer.art at (row_at layer y)) ink else ink) all
    ∙ ap (λ overprint. laid overprint (paint_at layer.art at (row_at layer y)) ink) both.0 in
    on (inks_at under x) ∙ knocked_out layer.art at (row_at layer y) x under ∙ sym (on blank)
