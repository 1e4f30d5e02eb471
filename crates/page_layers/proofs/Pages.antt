-- The layers of a page, one after the other.
use Rattle.std.proofs.Common.{◌≡◌, ℕ, ◌+◌, ◌-◌, ◌/◌, ◌<◌, ◌≤◌, ◌&&◌, Bool, true, false, nat_lt, IsTrue, All, List, [], ◌∷◌, ◌++◌, length, get_or, set, take, inl, inr, refl, sym, ap, ◌∙◌, arith}
use Rattle.std.specs.List.{fold, list_all}
use Rattle.std.proofs.Math.Nat.{div-mul-le_self}
use Rattle.std.proofs.lemmas.Bool.{cases_eq, cases_lt, eqb-true, lt-ltb}
use Rattle.std.proofs.lemmas.List.{append_assoc, get_or-map, get_or-set_other, get_or-set_same, get_or_default, length-map, length-set, map-append, map-set, set-get_or, take_all}
use Rattle.std.proofs.lemmas.List.Sums.{fold_more}
use Rattle.std.proofs.lemmas.Nat.{le-div}
use Rattle.std.proofs.lemmas.List.Elements.{All-head, All-tail, All-weaker}
use Rattle.page_layers.specs.declared.layer.Layer.{Layer}
use Rattle.page_layers.specs.declared.page_inks.PageInks.{PageInks}
use Rattle.page_layers.specs.Inks.{Planes, blank, inks_at, only}
use Rattle.page_layers.specs.Layer.{IsLayer, covers_column, covers_row, ink_at, painted, row_at}
use Rattle.page_layers.specs.Page.{shows_alike}
use Rattle.page_layers.specs.Rows.{IsReady, LayerState, layers_of}
use Rattle.page_layers.proofs.Only.{only-painted}
use Rattle.page_layers.proofs.Paints.{right_of_page, uncovered}

-- replacing a state by another one of the same layer keeps the list of layers
pub layers_of-set : (states : List LayerState) (i : ℕ) (state : LayerState) → i < length states → state.layer ≡ (get_or states i state).layer → layers_of (set states i state) ≡ layers_of states
layers_of-set states i state below same =
    map-set (λ (s : LayerState). s.layer) states i state
    ∙ ap (set (layers_of states) i) (same ∙ sym (get_or-map (λ (s : LayerState). s.layer) states i state state.layer below))
    ∙ set-get_or (layers_of states) i state.layer

-- the row of the image that shows never decreases
row_at-next : (layer : Layer) (y : ℕ) → 1 ≤ layer.scale → row_at layer y ≤ row_at layer (y + 1)
row_at-next layer y scaled =
    let whole = div-mul-le_self (y - layer.y) layer.scale in
    let next = le-div ((y - layer.y) / layer.scale) (y + 1 - layer.y) layer.scale (omega arith) (omega arith) in
    omega arith

-- a layer that is ready for a row is ready for the next
pub IsReady-next : (width y : ℕ) (states : List LayerState) → All (IsReady width y) states → All (IsReady width (y + 1)) states
IsReady-next width y states ready =
    All-weaker (IsReady width y) (IsReady width (y + 1))
    (λ state is. record { width_is = is.width_is; scaled = is.scaled; read = omega (arith, is.read, row_at-next state.layer y is.scaled) }) states ready

-- and so is a layer that has read no further than that row
pub IsReady-after : (width y : ℕ) (old new : LayerState) → IsReady width y old → new ≡ record old { read = new.read; inks = new.inks } → new.read ≤ row_at old.layer y + 1 → IsReady width y new
IsReady-after width y old new is same read =
    let layer : new.layer ≡ old.layer = ap (λ (s : LayerState). s.layer) same in
    record {
      width_is = ap (λ (s : LayerState). s.width) same ∙ is.width_is;
      scaled = rw layer is.scaled;
      read = rw layer read;
    }

-- a layer that was just opened is ready for row 0
pub IsReady-open : (width : ℕ) (layer : Layer) (inks : PageInks) (state : LayerState) → state ≡ record { layer = layer; width = width; read = 0; inks = inks } → IsLayer layer → IsReady width 0 state
IsReady-open width layer inks state same is =
    let own : state.layer ≡ layer = ap (λ (s : LayerState). s.layer) same in
    let none : state.read ≡ 0 = ap (λ (s : LayerState). s.read) same in
    record {
      width_is = ap (λ (s : LayerState). s.width) same;
      scaled = rw own is.scaled;
      read = omega arith;
    }

-- a layer that was just opened joins those before it
pub opened : (states items : List LayerState) (state : LayerState) (layer : Layer) (before rest all : List Layer) → items ≡ states ++ state ∷ [] → state.layer ≡ layer → before ≡ layer ∷ rest
    → layers_of states ++ before ≡ all → layers_of items ++ rest ≡ all
opened states items state layer before rest all items_are layer_is before_is split =
    ap (λ list. layers_of list ++ rest) items_are
    ∙ ap (λ list. list ++ rest) (map-append (λ (s : LayerState). s.layer) states (state ∷ []))
    ∙ append_assoc (layers_of states) (state.layer ∷ []) rest
    ∙ ap (λ l. layers_of states ++ (l ∷ rest)) layer_is
    ∙ ap (λ list. layers_of states ++ list) (sym before_is)
    ∙ split

-- replacing one state keeps all widths, and the first states unread
pub widths-set : (states olds : List LayerState) (i : ℕ) (state : LayerState) → i < length states → state.width ≡ (get_or states i state).width
    → ((k : ℕ) (d : LayerState) → k < length states → (get_or states k d).width ≡ (get_or olds k d).width)
    → (k : ℕ) (d : LayerState) → k < length (set states i state) → (get_or (set states i state) k d).width ≡ (get_or olds k d).width
widths-set states olds i state below same each k d inside =
    let within : k < length states = omega (arith, length-set states i state) in
    elim (cases_eq k i) [
      | inl here ↦
          rw here
          (ap (λ (s : LayerState). s.width) (get_or-set_same states i state d below) ∙ same ∙ ap (λ (s : LayerState). s.width) (get_or_default states i state d below) ∙ each i d below)
      | inr other ↦ ap (λ (s : LayerState). s.width) (get_or-set_other states i k state d other) ∙ each k d within
    ]

pub reads-set : (states : List LayerState) (i : ℕ) (state : LayerState) → i < length states → state.read ≡ 0 → ((k : ℕ) (d : LayerState) → k < i → (get_or states k d).read ≡ 0)
    → (k : ℕ) (d : LayerState) → k < i + 1 → (get_or (set states i state) k d).read ≡ 0
reads-set states i state below none each k d under =
    elim (cases_eq k i) [
      | inl here ↦ rw here (ap (λ (s : LayerState). s.read) (get_or-set_same states i state d below) ∙ none)
      | inr other ↦ ap (λ (s : LayerState). s.read) (get_or-set_other states i k state d other) ∙ each k d (omega (arith, other))
    ]

-- layers of which no row was read are ready for row 0
pub restarted : (states olds : List LayerState) (width y : ℕ) → layers_of states ≡ layers_of olds → ((k : ℕ) (d : LayerState) → k < length states → (get_or states k d).width ≡ (get_or olds k d).width)
    → ((k : ℕ) (d : LayerState) → k < length states → (get_or states k d).read ≡ 0) → All (IsReady width y) olds → All (IsReady width 0) states
restarted states olds width y same widths reads ready = λ k d below.
    let f = λ (s : LayerState). s.layer in
    let long : length states ≡ length olds = sym (length-map states f) ∙ ap length same ∙ length-map olds f in
    let there : k < length olds = omega arith in
    let own : (get_or states k d).layer ≡ (get_or olds k d).layer =
    sym (get_or-map f states k d d.layer below) ∙ ap (λ list. get_or list k d.layer) same ∙ get_or-map f olds k d d.layer there in
    let none = reads k d below in
    record {
      width_is = widths k d below ∙ (ready k d there).width_is;
      scaled = rw own (ready k d there).scaled;
      read = omega arith;
    }

-- one more layer painted
pub painted-more : (inks : List Bool) (states olds : List LayerState) (i x y : ℕ) (start under ink : List ℕ) (state : LayerState) → i < length states → layers_of states ≡ layers_of olds → state ≡ get_or states i state
    → only inks under ≡ only inks (fold (λ under layer. painted layer x y under) start (take i (layers_of olds))) → only inks ink ≡ only inks (painted state.layer x y under)
    → only inks ink ≡ only inks (fold (λ under layer. painted layer x y under) start (take (i + 1) (layers_of olds)))
painted-more inks states olds i x y start under ink state below same is before laid =
    let own : get_or (layers_of olds) i state.layer ≡ state.layer =
    ap (λ list. get_or list i state.layer) (sym same) ∙ get_or-map (λ (s : LayerState). s.layer) states i state state.layer below ∙ ap (λ (s : LayerState). s.layer) (sym is) in
    let long : i < length (layers_of olds) = rw (sym same) (omega (arith, length-map states (λ (s : LayerState). s.layer))) in
    laid ∙ only-painted inks state.layer x y under (fold (λ under layer. painted layer x y under) start (take i (layers_of olds))) before
    ∙ ap (λ layer. only inks (painted layer x y (fold (λ under layer. painted layer x y under) start (take i (layers_of olds))))) (sym own)
    ∙ ap (only inks) (sym (fold_more (λ under layer. painted layer x y under) start (layers_of olds) i state.layer long))

-- all layers painted
pub painted-all : (states olds : List LayerState) (i x y : ℕ) (start : List ℕ) → layers_of states ≡ layers_of olds → length states ≤ i
    → fold (λ under layer. painted layer x y under) start (take i (layers_of olds)) ≡ fold (λ under layer. painted layer x y under) start (layers_of olds)
painted-all states olds i x y start same all =
    let long : length (layers_of olds) ≤ i = rw (sym same) (omega (arith, length-map states (λ (s : LayerState). s.layer))) in
    ap (fold (λ under layer. painted layer x y under) start) (take_all i (layers_of olds) long)

-- the layers painted over no ink give the ink of the page
pub ink_at-is : (layers : List Layer) (x y : ℕ) → fold (λ under layer. painted layer x y under) blank layers ≡ ink_at layers x y
unfolding ink_at
ink_at-is layers x y = refl

-- ---- rows that repeat

both : (a b : Bool) → (a && b) ≡ true → (a ≡ true) × (b ≡ true)
both true b is = (refl, is)
both false b is = absurd (cc)

-- a layer that shows the same on two rows paints the same
alike_painted : (layer : Layer) (width x y : ℕ) (under : List ℕ) → x < width → shows_alike width layer y ≡ true → painted layer x y under ≡ painted layer x (y - 1) under
alike_painted layer width x y under within alike =
    elim (cases_lt layer.x width) [
      | inl there ↦ on_page (covers_row layer (y - 1)) (covers_row layer y) refl refl (lt-ltb layer.x width there)
      | inr beside ↦
          let none = right_of_page layer width x within beside in
          uncovered layer x y under (ap (λ under. under && covers_row layer y) none) ∙ sym (uncovered layer x (y - 1) under (ap (λ under. under && covers_row layer (y - 1)) none))
    ]
  where
    false_behind : (b : Bool) → (b && false) ≡ false
    false_behind true = refl
    false_behind false = refl

    hidden : (y : ℕ) → covers_row layer y ≡ false → painted layer x y under ≡ under
    hidden y none = uncovered layer x y under (ap (λ row. covers_column layer x && row) none ∙ false_behind (covers_column layer x))

    on_page : (above here : Bool) → above ≡ covers_row layer (y - 1) → here ≡ covers_row layer y → nat_lt layer.x width ≡ true → painted layer x y under ≡ painted layer x (y - 1) under
    on_page true true above here there =
        let row = eqb-true (row_at layer (y - 1)) (row_at layer y) (rw (there, sym above, sym here) at alike) in
        rw (sym above, sym here, row) refl
    on_page true false above here there = absurd (let no : false ≡ true = rw (there, sym above, sym here) at alike in cc)
    on_page false true above here there = absurd (let no : false ≡ true = rw (there, sym above, sym here) at alike in cc)
    on_page false false above here there = hidden y (sym here) ∙ sym (hidden (y - 1) (sym above))

-- the same for all layers, over any ink
alike_folds : (states : List LayerState) (width x y : ℕ) (under : List ℕ) → x < width → All (IsReady width y) states → list_all (λ state. shows_alike state.width state.layer y) states ≡ true
    → fold (λ under layer. painted layer x y under) under (layers_of states) ≡ fold (λ under layer. painted layer x (y - 1) under) under (layers_of states)
alike_folds [] width x y under within ready alike = refl
alike_folds (state ∷ states) width x y under within ready alike =
    let own = (All-head (IsReady width y) state states ready).width_is in
    let first : shows_alike width state.layer y ≡ true = rw own at (both (shows_alike state.width state.layer y) (list_all (λ state. shows_alike state.width state.layer y) states) alike).0 in
    let same = alike_painted state.layer width x y under within first in
    ap (λ ink. fold (λ under layer. painted layer x y under) ink (layers_of states)) same
    ∙ alike_folds states width x y (painted state.layer x (y - 1) under) within (All-tail (IsReady width y) state states ready) (both _ _ alike).1

-- so the ink of the page is the same
pub alike_inks : (states : List LayerState) (width x y : ℕ) → x < width → All (IsReady width y) states → list_all (λ state. shows_alike state.width state.layer y) states ≡ true
    → ink_at (layers_of states) x y ≡ ink_at (layers_of states) x (y - 1)
alike_inks states width x y within ready alike =
    sym (ink_at-is (layers_of states) x y) ∙ alike_folds states width x y blank within ready alike ∙ ink_at-is (layers_of states) x (y - 1)

together : (a b : Bool) → a ≡ true → b ≡ true → (a && b) ≡ true
together true b a_is b_is = b_is
together false b a_is b_is = absurd (cc)

-- where every layer shows the same, the test of all layers passes
pub all_alike : (states : List LayerState) (width y : ℕ) → All (IsReady width y) states → All (λ layer. IsTrue (shows_alike width layer y)) (layers_of states)
    → list_all (λ state. shows_alike state.width state.layer y) states ≡ true
all_alike [] width y ready each = refl
all_alike (state ∷ states) width y ready each =
    let own = (All-head (IsReady width y) state states ready).width_is in
    let P : Layer → Type 0 = λ layer. IsTrue (shows_alike width layer y) in
    let first : shows_alike state.width state.layer y ≡ true = rw own (All-head P state.layer (layers_of states) each) in
    together _ _ first (all_alike states width y (All-tail (IsReady width y) state states ready) (All-tail P state.layer (layers_of states) each))

-- where the bottom layer covers a pixel, the ink below it does not matter
pub covered_inks : (states : List LayerState) (x y : ℕ) (first : LayerState) (under : Planes) → 0 < length states → painted (get_or states 0 first).layer x y (inks_at under x) ≡ painted (get_or states 0 first).layer x y blank
    → fold (λ under layer. painted layer x y under) (inks_at under x) (layers_of states) ≡ ink_at (layers_of states) x y
covered_inks [] x y first under some same = absurd (omega arith)
covered_inks (state ∷ states) x y first under some same =
    ap (λ ink. fold (λ under layer. painted layer x y under) ink (layers_of states)) same ∙ ink_at-is (layers_of (state ∷ states)) x y
