-- What is read without a spot ink is read the same with one.
use Rattle.std.proofs.Common.{◌≡◌, ℕ, Bool, true, false, cond, List, [], ◌∷◌, ◌++◌, length, Option, Some, None, Ok, refl, arith}
use Rattle.std.specs.Prelude.{codes}
use Rattle.std.proofs.lemmas.Grind.{common_steps}
use Rattle.std.proofs.lemmas.Bool.Decides.{nat_tests}
use Rattle.serde_json.specs.Data.{Data, Items, no_items, item, Members, no_members, member}
use Rattle.serde_json.specs.Find.{get}
use Rattle.plan_parts.specs.declared.printing.Screen.{Screen}
use Rattle.plan_parts.specs.Data.{TileData, CurveData}
use Rattle.plan_parts.specs.Reading.{Reader, at_key, at_item, is_among, first_unknown, object_with, ink_keys, required_in, required, optional_in, optional, items_within, each_after, list_of}
use Rattle.plan_parts.specs.Printing.{screens, curves, mark_inks, mark_in, mark, marks}
use Rattle.plan_json.specs.Pages.{PageText, ink, painting, layer, layers, inks_named, page_inks, page, pages}
use Rattle.plan_json.specs.PlanOf.{inks, layout, plan_by}
use Rattle.plan_parts.proofs.Sound.{bind_ok}

-- what one reader reads, the other reads too, and the same
abbrev pub Later : {A : Type 0} → Reader A → Reader A → Type 0
Later {A} r s = (path : List ℕ) (d : Data) (x : A) → r path d ≡ Ok x → s path d ≡ Ok x

-- ---- words

required_in_later : {A : Type 0} (r s : Reader A) (path : List ℕ) (found : Option Data) (x : A)
    → ((d : Data) → r path d ≡ Ok x → s path d ≡ Ok x) → required_in r path found ≡ Ok x
    → required_in s path found ≡ Ok x
required_in_later r s path None x h e = absurd cc
required_in_later r s path (Some d) x h e = h d e

required_later : {A : Type 0} (r s : Reader A) → Later r s → (key : List ℕ) → Later (required key r) (required key s)
unfolding required
required_later r s h key path o x e = required_in_later r s (at_key path key) (get key o) x (λ d. h (at_key path key) d x) e

optional_in_later : {A : Type 0} (absent : A) (r s : Reader A) (path : List ℕ) (found : Option Data) (x : A)
    → ((d : Data) → r path d ≡ Ok x → s path d ≡ Ok x) → optional_in absent r path found ≡ Ok x
    → optional_in absent s path found ≡ Ok x
optional_in_later absent r s path None x h e = e
optional_in_later absent r s path (Some d) x h e = h d e

optional_later : {A : Type 0} (absent : A) (r s : Reader A) → Later r s → (key : List ℕ) → Later (optional key absent r) (optional key absent s)
unfolding optional
optional_later absent r s h key path o x e = optional_in_later absent r s (at_key path key) (get key o) x (λ d. h (at_key path key) d x) e

module _ {A : Type 0} (r s : List A → Reader A) (h : (xs : List A) → Later (r xs) (s xs)) where
  each_later : (xs : List A) (path : List ℕ) (items : Items) (ys : List A)
      → each_after xs r path items ≡ Ok ys → each_after xs s path items ≡ Ok ys
  unfolding each_after
  each_later xs path no_items ys e = e
  each_later xs path (item d items) ys e =
      let b = bind_ok (r xs (at_item path (length xs)) d) (λ x. each_after (xs ++ x ∷ []) r path items) ys e in
      rw (h xs (at_item path (length xs)) d b.0 b.1) (each_later (xs ++ b.0 ∷ []) path items ys b.2)

  list_later : (low high : ℕ) → Later (list_of low high r) (list_of low high s)
  list_later low high path d ys e =
      let b = bind_ok (items_within low high path d) (each_after [] r path) ys e in
      rw b.1 (each_later [] path b.0 ys b.2)

items_wider : Later (items_within 4 4) (items_within 4 5)
unfolding items_within
items_wider path d items e = grind (arith, common_steps, nat_tests)

-- ---- inks as keys

among_more : (key : List ℕ) → is_among (ink_keys false) key ≡ true → is_among (ink_keys true) key ≡ true
among_more key e = grind (arith, common_steps)

unknown_case : (a b : Bool) (key : List ℕ) (x y : Option (List ℕ)) → (a ≡ true → b ≡ true)
    → (x ≡ None → y ≡ None) → cond a x (Some key) ≡ None → cond b y (Some key) ≡ None
unknown_case true b key x y h g e = rw (h refl) (g e)
unknown_case false b key x y h g e = absurd cc

unknown_later : (members : Members) → first_unknown (ink_keys false) members ≡ None
    → first_unknown (ink_keys true) members ≡ None
unknown_later no_members e = refl
unknown_later (member key d members) e = unknown_case (is_among (ink_keys false) key) (is_among (ink_keys true) key) key _ _ (among_more key) (unknown_later members) e

inks_later : Later (object_with (ink_keys false)) (object_with (ink_keys true))
unfolding object_with
inks_later path d o e = grind (arith, common_steps, unknown_later)

-- ---- tables

screens_later : (tiles : List TileData) → Later (screens false tiles) (screens true tiles)
unfolding screens
screens_later tiles path d v e = grind (arith, common_steps, inks_later)

curves_later : Later (curves false) (curves true)
unfolding curves
curves_later path d v e = grind (arith, common_steps, inks_later)

mark_inks_later : Later (mark_inks false) (mark_inks true)
unfolding mark_inks
mark_inks_later path d v e = grind (arith, common_steps)

mark_inks_key : Later (required (codes "inks") (mark_inks false)) (required (codes "inks") (mark_inks true))
mark_inks_key path o v e = required_later (mark_inks false) (mark_inks true) mark_inks_later (codes "inks") path o v e

mark_in_later : Later (mark_in false) (mark_in true)
unfolding mark_in
mark_in_later path o m e = grind (arith, common_steps, mark_inks_key)

mark_later : (width height : ℕ) → Later (mark false width height) (mark true width height)
unfolding mark
mark_later width height path d m e = grind (arith, common_steps, mark_in_later)

marks_later : (width height : ℕ) → Later (marks false width height) (marks true width height)
unfolding marks
marks_later width height path d v e = list_later (λ _. mark false width height) (λ _. mark true width height) (λ _. mark_later width height) 0 64 path d v e

ink_later : Later (ink false) (ink true)
unfolding ink
ink_later path d v e = grind (arith, common_steps, items_wider)

ink_key : (absent : List ℕ) → Later (optional (codes "ink") absent (ink false)) (optional (codes "ink") absent (ink true))
ink_key absent path o v e = optional_later absent (ink false) (ink true) ink_later (codes "ink") path o v e

painting_later : Later (painting false) (painting true)
unfolding painting
painting_later path o p e = grind (arith, common_steps, ink_key)

layer_later : Later (layer false) (layer true)
unfolding layer
layer_later path d l e = grind (arith, common_steps, painting_later)

layers_later : Later (layers false) (layers true)
unfolding layers
layers_later path d v e = list_later (λ _. layer false) (λ _. layer true) (λ _. layer_later) 0 32 path d v e

layers_key : Later (required (codes "layers") (layers false)) (required (codes "layers") (layers true))
layers_key path o v e = required_later (layers false) (layers true) layers_later (codes "layers") path o v e

page_inks_later : Later (page_inks false) (page_inks true)
unfolding page_inks inks_named
page_inks_later path d v e = grind (arith, common_steps)

page_inks_key : Later (required (codes "inks") (page_inks false)) (required (codes "inks") (page_inks true))
page_inks_key path o v e = required_later (page_inks false) (page_inks true) page_inks_later (codes "inks") path o v e

page_later : (earlier : List PageText) → Later (page false earlier) (page true earlier)
unfolding page
page_later earlier path d p e = grind (arith, common_steps, page_inks_key, layers_key)

pages_later : Later (pages false) (pages true)
unfolding pages
pages_later path d v e = list_later (page false) (page true) page_later 1 2048 path d v e

-- ---- the top object

screens_key : (absent : List Screen) (tiles : List TileData) → Later (optional (codes "screens") absent (screens false tiles)) (optional (codes "screens") absent (screens true tiles))
screens_key absent tiles path o v e = optional_later absent (screens false tiles) (screens true tiles) (screens_later tiles) (codes "screens") path o v e

curves_key : (absent : List CurveData) → Later (optional (codes "curves") absent (curves false)) (optional (codes "curves") absent (curves true))
curves_key absent path o v e = optional_later absent (curves false) (curves true) curves_later (codes "curves") path o v e

marks_key : (width height : ℕ) → Later (optional (codes "marks") [] (marks false width height)) (optional (codes "marks") [] (marks true width height))
marks_key width height path o v e = optional_later [] (marks false width height) (marks true width height) (marks_later width height) (codes "marks") path o v e

pages_key : Later (required (codes "pages") (pages false)) (required (codes "pages") (pages true))
pages_key path o v e = required_later (pages false) (pages true) pages_later (codes "pages") path o v e

inks_of_later : (width height : ℕ) → Later (inks false width height) (inks true width height)
unfolding inks
inks_of_later width height path o i e = grind (arith, common_steps, screens_key, curves_key, marks_key)

layout_later : Later (layout false) (layout true)
unfolding layout
layout_later path o l e = grind (arith, common_steps, pages_key)

pub plan_by_later : Later (plan_by false) (plan_by true)
unfolding plan_by
plan_by_later path o p e = grind (arith, common_steps, inks_of_later, layout_later)
