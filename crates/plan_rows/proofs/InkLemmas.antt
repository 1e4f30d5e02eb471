-- The inks that the plates of a group print.
use Rattle.std.proofs.Common.{◌≡◌, ℕ, suc, ◌+◌, ◌<◌, true, eqb, List, [], ◌∷◌, length, map, get_or, Some, refl, sym, ap, subst, ◌∙◌, arith}
use Rattle.std.specs.Prelude.{All, Contains, slice_get}
use Rattle.std.specs.List.{enumerate_from, flat_map}
use Rattle.std.proofs.lemmas.Bool.{eq-eqb, eqb-true}
use Rattle.std.proofs.lemmas.List.{get_or_default}
use Rattle.std.proofs.lemmas.List.Elements.{All-append, All-map, All-nil, All-weaker}
use Rattle.std.proofs.lemmas.List.Folds.{Any-from_list_any, list_any_at}
use Rattle.std.proofs.lemmas.Option.{get_or_from_slice_get, slice_get_within}
use Rattle.pr_base.specs.declared.ink.Ink.{Ink}
use Rattle.pr_base.specs.declared.ink.Ink.TheVariants.{K}
use Rattle.pr_base.specs.Ink.{slot_of}
use Rattle.pr_base.proofs.Inks.{slot_tells}
use Rattle.plan_json.specs.Data.{PlanData, plate_height}
use Rattle.plan_rows.specs.declared.group.Group.{Group}
use Rattle.plan_rows.specs.declared.place.RowPlace.{RowPlace}
use Rattle.plan_rows.specs.Inks.{has_ink, inks_of}
use Rattle.plan_rows.specs.Groups.{groups_of}
use Rattle.plan_rows.specs.Rows.{group_rows, place_of, places_in, row_places}
use Rattle.plan_rows.proofs.GroupLemmas.{all_pieces}

-- ---- the inks of a group

pub has_ink-at : (group : Group) (i : ℕ) (ink : Ink) → i < length (inks_of group)
    → ink ≡ get_or (inks_of group) i K → has_ink group ink ≡ true
has_ink-at group i ink within is =
    list_any_at (λ other. eqb (slot_of other) (slot_of ink)) (inks_of group) i K within
    (eq-eqb _ _ (ap slot_of (sym is)))

pub has_ink-in : (group : Group) (ink : Ink) → has_ink group ink ≡ true → Contains (inks_of group) ink
has_ink-in group ink of_ink =
    let at = Any-from_list_any (λ other. eqb (slot_of other) (slot_of ink)) (inks_of group) of_ink in
    let same : at.1 ≡ ink = slot_tells at.1 ink (eqb-true (slot_of at.1) (slot_of ink) at.4) in
    subst {A = Ink} (Contains (inks_of group)) same (at.0, at.2, at.3)

-- ---- the ink of a row

-- the row's group is one of these groups, which are numbered from this index, and prints the row's ink
record IsPrinted (from : ℕ) (groups : List Group) (place : RowPlace) : Type 0 where
  at : ℕ
  within : at < length groups
  index : place.group ≡ from + at
  printed : (d : Group) → has_ink (get_or groups at d) place.ink ≡ true

group_prints : (height index : ℕ) (group : Group)
    → All (λ place. (place.group ≡ index) × (has_ink group place.ink ≡ true)) (group_rows height (index, group))
group_prints height index group =
    let Of : RowPlace → Type 0 = λ place. (place.group ≡ index) × (has_ink group place.ink ≡ true) in
    all_pieces Of (λ y. map (place_of index y) (inks_of group)) 0 height
    (λ y _ _. All-map Of (place_of index y) (inks_of group)
    (λ i d within.
    (refl, has_ink-at group i (get_or (inks_of group) i d) within (get_or_default (inks_of group) i d K within))))

all_print : (height from : ℕ) (groups : List Group)
    → All (IsPrinted from groups) (flat_map (group_rows height) (enumerate_from from groups))
all_print height from [] = All-nil (IsPrinted from [])
all_print height from (group ∷ groups) =
    let Of : RowPlace → Type 0 = λ place. (place.group ≡ from) × (has_ink group place.ink ≡ true) in
    let first = group_rows height (from, group) in
    let others = flat_map (group_rows height) (enumerate_from (from + 1) groups) in
    All-append (IsPrinted from (group ∷ groups)) first others
    (All-weaker Of (IsPrinted from (group ∷ groups))
    (λ place is. record { at = 0; within = omega arith; index = (let same = is.0 in omega arith); printed = λ d. is.1 })
    first (group_prints height from group))
    (All-weaker (IsPrinted (from + 1) groups) (IsPrinted from (group ∷ groups))
    (λ place is. record {
      at = suc is.at;
      within = (let low = is.within in omega arith);
      index = (let same = is.index in omega arith);
      printed = is.printed;
    })
    others (all_print height (from + 1) groups))

-- the ink of a row is printed by the plates of its group
pub place_prints : (plan : PlanData) (n : ℕ) (place : RowPlace) → slice_get (row_places plan) n ≡ Some place
    → (group : Group) → slice_get (groups_of plan) place.group ≡ Some group → has_ink group place.ink ≡ true
unfolding places_in
place_prints plan n place there group of =
    let groups = groups_of plan in
    let is : IsPrinted 0 groups place =
    subst {A = RowPlace} (IsPrinted 0 groups) (get_or_from_slice_get (row_places plan) n place place there)
    (all_print (plate_height plan) 0 groups n place (slice_get_within (row_places plan) n place there)) in
    let at : is.at ≡ place.group = (let same = is.index in omega arith) in
    let here : get_or groups is.at group ≡ group =
    ap (λ i. get_or groups i group) at ∙ get_or_from_slice_get groups place.group group group of in
    subst {A = Group} (λ g. has_ink g place.ink ≡ true) here (is.printed group)
