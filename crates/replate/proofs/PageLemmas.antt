-- Pages whose files are given by their classes are the same exactly where their recipes are.
use Rattle.std.proofs.Common.{◌≡◌, ℕ, zero, suc, ◌<◌, List, [], ◌∷◌, length, map, get_or, Option, Some, None, option_map, slice_get, refl, ap, sym, ◌∙◌, arith}
use Rattle.std.specs.Prelude.{All, IfSome, slice_index}
use Rattle.std.specs.Option.{option_map_or}
use Rattle.std.proofs.lemmas.List.{get_or-map}
use Rattle.std.proofs.lemmas.List.Elements.{All-head, All-tail}
use Rattle.plan_parts.specs.Data.{LayerData, PageData}
use Rattle.plan_parts.specs.Parts.{IsLayer}
use Rattle.plan_json.specs.Data.{PlanData}
use Rattle.replate.specs.declared.classes.Classes.{Classes}
use Rattle.replate.specs.Classes.{AreClasses, class_of, classed, classed_page}
use Rattle.replate.specs.Recipe.{LayerRecipe, PageRecipe, file_at, layer_recipe, page_recipe, without_files}
use Rattle.replate.proofs.ClassLemmas.{class_tells}

-- ---- one page of the plan

found : {X Y : Type 0} (f : X → Y) (xs : List X) (i : ℕ) (x : X) (y : Y) → i < length xs → x ≡ get_or xs i x → option_map_or f (slice_get xs i) y ≡ f x
found f [] i x y within is = absurd (omega arith)
found f (z ∷ xs) zero x y within is = ap f (sym is)
found f (z ∷ xs) (suc i) x y within is = found f xs i x y (omega arith) is

-- the recipe of a page of the plan
abbrev pub page_told : List (List ℕ) → PageData → PageRecipe
page_told files page = record { colour = page.colour; spot = page.spot; layers = map (layer_recipe files) page.layers }

pub page_is : (plan : PlanData) (files : List (List ℕ)) (page : ℕ) (p : PageData) → page < length plan.pages → p ≡ get_or plan.pages page p → page_recipe plan files page ≡ page_told files p
unfolding page_recipe
page_is plan files page p within is =
    let colour = found (λ (x : PageData). x.colour) plan.pages page p _ within is in
    let spot = found (λ (x : PageData). x.spot) plan.pages page p _ within is in
    let layers = found (λ (x : PageData). x.layers) plan.pages page p [] within is in
    λ i. record { colour = colour i; spot = spot i; layers = map (layer_recipe files) (layers i) }

-- ---- one layer

class_at : (olds files : List (List ℕ)) (classes : List ℕ) (i : ℕ) → classes ≡ map (class_of olds) files → i < length files → slice_index classes i ≡ class_of olds (file_at files i)
class_at olds files classes i are within = ap (λ l. get_or l i 0) are ∙ get_or-map (class_of olds) files i [] 0 within

module _ (olds news : List (List ℕ)) (classes : Classes) (are : AreClasses olds news classes) where
  files_tell : (i j : ℕ) → i < length olds → j < length news → slice_index classes.before.items i ≡ slice_index classes.after.items j → file_at olds i ≡ file_at news j
  files_tell i j left right same =
      class_tells olds (file_at olds i) (file_at news j) i left refl
      (sym (class_at olds olds classes.before.items i are.old left) ∙ same ∙ class_at olds news classes.after.items j are.new right)

  files_same : (i j : ℕ) → i < length olds → j < length news → file_at olds i ≡ file_at news j → slice_index classes.before.items i ≡ slice_index classes.after.items j
  files_same i j left right same =
      class_at olds olds classes.before.items i are.old left ∙ ap (class_of olds) same ∙ sym (class_at olds news classes.after.items j are.new right)

  masks_tell : (a b : Option ℕ) → IfSome a (λ i. i < length olds) → IfSome b (λ j. j < length news)
      → option_map (slice_index classes.before.items) a ≡ option_map (slice_index classes.after.items) b → option_map (file_at olds) a ≡ option_map (file_at news) b
  masks_tell None None left right same = refl
  masks_tell None (Some j) left right same = absurd cc
  masks_tell (Some i) None left right same = absurd cc
  masks_tell (Some i) (Some j) left right same = (let one : slice_index classes.before.items i ≡ slice_index classes.after.items j = cc in ap Some (files_tell i j left right one))

  masks_same : (a b : Option ℕ) → IfSome a (λ i. i < length olds) → IfSome b (λ j. j < length news)
      → option_map (file_at olds) a ≡ option_map (file_at news) b → option_map (slice_index classes.before.items) a ≡ option_map (slice_index classes.after.items) b
  masks_same None None left right same = refl
  masks_same None (Some j) left right same = absurd cc
  masks_same (Some i) None left right same = absurd cc
  masks_same (Some i) (Some j) left right same = (let one : file_at olds i ≡ file_at news j = cc in ap Some (files_same i j left right one))

  layers_tell : (a b : LayerData) → IsLayer (length olds) a → IsLayer (length news) b → classed classes.before.items a ≡ classed classes.after.items b → layer_recipe olds a ≡ layer_recipe news b
  layers_tell a b left right same =
      let image = files_tell a.file b.file left.file right.file (ap {A = LayerData} (λ l. l.file) same) in
      let mask = masks_tell a.mask b.mask left.mask right.mask (ap {A = LayerData} (λ l. l.mask) same) in
      λ i. record { rest = without_files (same i); image = image i; mask = mask i }

  layers_same : (a b : LayerData) → IsLayer (length olds) a → IsLayer (length news) b → layer_recipe olds a ≡ layer_recipe news b → classed classes.before.items a ≡ classed classes.after.items b
  layers_same a b left right same =
      let file = files_same a.file b.file left.file right.file (ap {A = LayerRecipe} (λ l. l.image) same) in
      let mask = masks_same a.mask b.mask left.mask right.mask (ap {A = LayerRecipe} (λ l. l.mask) same) in
      λ i. record (same i).rest { file = file i; mask = mask i }

-- ---- all layers

along : {X Y Z : Type 0} (f g : X → Y) (f' g' : X → Z) (P Q : X → Type 0) → ((x y : X) → P x → Q y → f x ≡ g y → f' x ≡ g' y)
    → (xs ys : List X) → All P xs → All Q ys → map f xs ≡ map g ys → map f' xs ≡ map g' ys
along f g f' g' P Q each [] [] left right same = refl
along f g f' g' P Q each [] (y ∷ ys) left right same = absurd cc
along f g f' g' P Q each (x ∷ xs) [] left right same = absurd cc
along f g f' g' P Q each (x ∷ xs) (y ∷ ys) left right same =
    let head : f x ≡ g y = cc in
    let tail : map f xs ≡ map g ys = cc in
    let one = each x y (All-head P x xs left) (All-head Q y ys right) head in
    let rest = along f g f' g' P Q each xs ys (All-tail P x xs left) (All-tail Q y ys right) tail in
    λ i. one i ∷ rest i

pub pages_tell : (olds news : List (List ℕ)) (classes : Classes) (p q : PageData) → AreClasses olds news classes
    → All (IsLayer (length olds)) p.layers → All (IsLayer (length news)) q.layers → classed_page classes.before.items p ≡ classed_page classes.after.items q → page_told olds p ≡ page_told news q
pages_tell olds news classes p q are left right same =
    let layers = along (classed classes.before.items) (classed classes.after.items) (layer_recipe olds) (layer_recipe news) (IsLayer (length olds)) (IsLayer (length news))
    (layers_tell olds news classes are) p.layers q.layers left right (ap {A = PageData} (λ page. page.layers) same) in
    λ i. record { colour = (same i).colour; spot = (same i).spot; layers = layers i }

pub pages_same : (olds news : List (List ℕ)) (classes : Classes) (p q : PageData) → AreClasses olds news classes
    → All (IsLayer (length olds)) p.layers → All (IsLayer (length news)) q.layers → page_told olds p ≡ page_told news q → classed_page classes.before.items p ≡ classed_page classes.after.items q
pages_same olds news classes p q are left right same =
    let layers = along (layer_recipe olds) (layer_recipe news) (classed classes.before.items) (classed classes.after.items) (IsLayer (length olds)) (IsLayer (length news))
    (layers_same olds news classes are) p.layers q.layers left right (ap {A = PageRecipe} (λ page. page.layers) same) in
    λ i. record { name = []; colour = (same i).colour; spot = (same i).spot; layers = layers i }
