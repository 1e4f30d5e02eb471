-- Which plates a plan has, and which of them has a path.
use Rattle.std.proofs.Common.{◌≡◌, ◌≢◌, ℕ, ◌+◌, ◌<◌, ◌≤◌, Bool, true, false, cond, eqb, List, [], ◌∷◌, ◌++◌, length, get_or, take, refl, ap, sym, zero-add, ◌∙◌, inl, inr, arith}
use Rattle.std.specs.Prelude.{◌||◌}
use Rattle.std.specs.List.{enumerate_from, flat_map, list_any, range_with_len}
use Rattle.std.specs.Str.{bytes_eq}
use Rattle.std.specs.Cmp.Lexicographic.{bytes_decides}
use Rattle.std.proofs.lemmas.Bool.{cases_Bool, false≢true, both_ways, false_from_ne_true}
use Rattle.std.proofs.lemmas.List.{length-map, get_or-map, get_or_default, take_all}
use Rattle.std.proofs.lemmas.List.Folds.{Any-from_list_any, list_any-append, list_any_at}
use Rattle.std.proofs.lemmas.List.FromFn.{length-range_with_len, get_or-range_with_len, length-enumerate_from, get_or-enumerate_from}
use Rattle.pr_base.specs.declared.ink.Ink.{Ink}
use Rattle.pr_base.specs.declared.ink.Ink.TheVariants.{K}
use Rattle.plan_json.specs.Data.{PlanData}
use Rattle.plan_json.specs.Plan.{IsPlan}
use Rattle.pr_base.specs.Ink.{slot_of}
use Rattle.plan_rows.specs.declared.group.Group.{Group}
use Rattle.plan_rows.specs.Inks.{has_ink, has_site, inks_of}
use Rattle.plan_rows.specs.Groups.{groups_of}
use Rattle.replate.specs.Plates.{PlateAt, IsPlateOf, all_plates, group_at, has_path, ink_plates, group_in, path_below, plates_in, plates_of}
use Rattle.replate.specs.Standing.{StandsFor}
use Rattle.replate.proofs.GroupLemmas.{group_in_plan, inks_alike, stand_alike}
use Rattle.replate.proofs.ListLemmas.{joined_more}
use Rattle.plan_rows.proofs.InkLemmas.{has_ink-at, has_ink-in}
use Rattle.plan_rows.proofs.Names.{CanTell, paths_same, paths_tell}

-- ---- some element

pub some_at : {X : Type 0} (p : X → Bool) (xs : List X) (d : X) → list_any p xs ≡ true
    → (i : ℕ) × (i < length xs) × (p (get_or xs i d) ≡ true)
some_at p xs d is =
    let at = Any-from_list_any p xs is in
    (at.0, at.2, ap p (sym (get_or_default xs at.0 at.1 d at.2) ∙ at.3) ∙ at.4)

pub any-flat_map : {X Y : Type 0} (p : Y → Bool) (f : X → List Y) (xs : List X)
    → list_any p (flat_map f xs) ≡ list_any (λ x. list_any p (f x)) xs
any-flat_map p f [] = refl
any-flat_map p f (x ∷ xs) =
    list_any-append p (f x) (flat_map f xs) ∙ ap (λ b. list_any p (f x) || b) (any-flat_map p f xs)

-- ---- plates

-- whether a test passes for a plate of a group at a site
of_group : (test : PlateAt → Bool) (site index : ℕ) (group : Group) (ink : Ink) → has_site group site ≡ true → has_ink group ink ≡ true
    → test (record { site = site; group = index; ink = ink }) ≡ true → list_any test (plates_in site (index, group)) ≡ true
of_group test site index group ink of_site of_ink passes =
    let plate : Ink → PlateAt = λ i. record { site = site; group = index; ink = i } in
    let at = has_ink-in group ink of_ink in
    let low = at.1 in
    let here : test (get_or (ink_plates site index (inks_of group)) at.0 (plate K)) ≡ true =
    ap test (get_or-map plate (inks_of group) at.0 ink (plate K) low ∙ ap plate at.2) ∙ passes in
    ap (λ b. list_any test (cond b (ink_plates site index (inks_of group)) [])) of_site
    ∙ list_any_at test (ink_plates site index (inks_of group)) at.0 (plate K) (omega (arith, length-map (inks_of group) plate)) here

some_of_group : (test : PlateAt → Bool) (site index : ℕ) (group : Group) → list_any test (plates_in site (index, group)) ≡ true
    → (ink : Ink) × (has_site group site ≡ true) × (has_ink group ink ≡ true) × (test (record { site = site; group = index; ink = ink }) ≡ true)
some_of_group test site index group is =
    let plate : Ink → PlateAt = λ i. record { site = site; group = index; ink = i } in
    elim (cases_Bool (has_site group site)) [
      | inl of_site ↦
          let all : list_any test (ink_plates site index (inks_of group)) ≡ true =
          sym (ap (λ b. list_any test (cond b (ink_plates site index (inks_of group)) [])) of_site) ∙ is in
          let at = some_at test (ink_plates site index (inks_of group)) (plate K) all in
          let low : at.0 < length (inks_of group) = (let less = at.1 in omega (arith, length-map (inks_of group) plate)) in (
            get_or (inks_of group) at.0 K,
            of_site,
            has_ink-at group at.0 _ low refl,
            sym (ap test (get_or-map plate (inks_of group) at.0 K (plate K) low)) ∙ at.2,
          )
      | inr other ↦ absurd (false≢true (sym (ap (λ b. list_any test (cond b (ink_plates site index (inks_of group)) [])) other) ∙ is))
    ]

-- a group together with its index
pub pair_at : (plan : PlanData) (index : ℕ) → index < length (groups_of plan)
    → get_or (enumerate_from 0 (groups_of plan)) index (0, group_in [] 0) ≡ (index, group_at plan index)
pair_at plan index within =
    get_or-enumerate_from 0 (groups_of plan) index (0, group_in [] 0) within
    ∙ ap {A = ℕ} {B = ℕ × Group} (λ n. (n, group_at plan index)) (zero-add index)

-- what is made of a site's plates group by group, by a function that keeps joins: one group more
pub next_group : {X : Type 0} (g : List PlateAt → List X) → ((a b : List PlateAt) → g (a ++ b) ≡ g a ++ g b)
    → (plan : PlanData) (site index : ℕ) (old now next : List X) → index < length (groups_of plan)
    → now ≡ old ++ g (flat_map (plates_in site) (take index (enumerate_from 0 (groups_of plan))))
    → next ≡ now ++ g (plates_in site (index, group_at plan index))
    → next ≡ old ++ g (flat_map (plates_in site) (take (index + 1) (enumerate_from 0 (groups_of plan))))
next_group g joins plan site index old now next within before is =
    let pairs = enumerate_from 0 (groups_of plan) in
    is ∙ ap (λ l. l ++ g (plates_in site (index, group_at plan index))) before
    ∙ ap (λ p. (old ++ g (flat_map (plates_in site) (take index pairs))) ++ g (plates_in site p)) (sym (pair_at plan index within))
    ∙ joined_more g joins (plates_in site) old pairs index (0, group_in [] 0) (omega (arith, within, length-enumerate_from 0 (groups_of plan)))

-- all groups
pub every_group : {X : Type 0} (g : List PlateAt → List X) (plan : PlanData) (site index : ℕ) (old now : List X) → length (groups_of plan) ≤ index
    → now ≡ old ++ g (flat_map (plates_in site) (take index (enumerate_from 0 (groups_of plan)))) → now ≡ old ++ g (plates_of plan site)
unfolding plates_of
every_group g plan site index old now all is =
    let pairs = enumerate_from 0 (groups_of plan) in
    is ∙ ap (λ l. old ++ g (flat_map (plates_in site) l)) (take_all index pairs (omega (arith, all, length-enumerate_from 0 (groups_of plan))))

-- a plate that passes is one of those of its site
pub any_of_site : (plan : PlanData) (test : PlateAt → Bool) (plate : PlateAt) → IsPlateOf plan plate → test plate ≡ true → list_any test (plates_of plan plate.site) ≡ true
unfolding plates_of
any_of_site plan test plate is passes =
    let pairs = enumerate_from 0 (groups_of plan) in
    any-flat_map test (plates_in plate.site) pairs
    ∙ list_any_at (λ p. list_any test (plates_in plate.site p)) pairs plate.group (0, group_in [] 0) (let low = is.group in omega (arith, length-enumerate_from 0 (groups_of plan)))
    (ap (λ p. list_any test (plates_in plate.site p)) (pair_at plan plate.group is.group)
    ∙ of_group test plate.site plate.group (group_at plan plate.group) plate.ink is.of_site is.of_ink passes)

-- where the test passes for some entry of a site's list, it passes for a plate of the site
pub some_of_site : (plan : PlanData) (site : ℕ) (test : PlateAt → Bool) → site < length plan.sites → list_any test (plates_of plan site) ≡ true
    → (plate : PlateAt) × IsPlateOf plan plate × (plate.site ≡ site) × (test plate ≡ true)
unfolding plates_of
some_of_site plan site test low is =
    let pairs = enumerate_from 0 (groups_of plan) in
    let at = some_at (λ p. list_any test (plates_in site p)) pairs (0, group_in [] 0) (sym (any-flat_map test (plates_in site) pairs) ∙ is) in
    let within : at.0 < length (groups_of plan) = (let less = at.1 in omega (arith, length-enumerate_from 0 (groups_of plan))) in
    let one = some_of_group test site at.0 (group_at plan at.0) (sym (ap (λ p. list_any test (plates_in site p)) (pair_at plan at.0 within)) ∙ at.2) in
    (record { site = site; group = at.0; ink = one.0 }, record { site = low; group = within; of_site = one.1; of_ink = one.2 }, refl, one.3)

-- the same for all plates
pub any_plate : (plan : PlanData) (test : PlateAt → Bool) (plate : PlateAt) → IsPlateOf plan plate → test plate ≡ true → list_any test (all_plates plan) ≡ true
unfolding all_plates
any_plate plan test plate is passes =
    let sites = range_with_len 0 (length plan.sites) in
    any-flat_map test (plates_of plan) sites
    ∙ list_any_at (λ s. list_any test (plates_of plan s)) sites plate.site 0 (let low = is.site in omega (arith, length-range_with_len 0 (length plan.sites)))
    (ap (λ s. list_any test (plates_of plan s)) (get_or-range_with_len 0 (length plan.sites) plate.site 0 is.site ∙ zero-add plate.site)
    ∙ any_of_site plan test plate is passes)

pub some_plate : (plan : PlanData) (test : PlateAt → Bool) → list_any test (all_plates plan) ≡ true → (plate : PlateAt) × IsPlateOf plan plate × (test plate ≡ true)
unfolding all_plates
some_plate plan test is =
    let sites = range_with_len 0 (length plan.sites) in
    let at = some_at (λ s. list_any test (plates_of plan s)) sites 0 (sym (any-flat_map test (plates_of plan) sites) ∙ is) in
    let low : at.0 < length plan.sites = (let less = at.1 in omega (arith, length-range_with_len 0 (length plan.sites))) in
    let one = some_of_site plan at.0 test low
    (sym (ap (λ s. list_any test (plates_of plan s)) (get_or-range_with_len 0 (length plan.sites) at.0 0 low ∙ zero-add at.0)) ∙ at.2) in
    (one.0, one.1, one.3)

-- ---- paths

pub can_tell : (plan : PlanData) (site index : ℕ) → IsPlan plan → site < length plan.sites → index < length (groups_of plan) → CanTell plan site (group_at plan index)
can_tell plan site index is low within =
    let of = group_in_plan plan index is within in
    record { plan_is = is; of_site = low; of_section = of.section; digits = (let few = of.pair in omega arith) }

module _ (before after : PlanData) (old : PlateAt) (before_is : IsPlan before) (after_is : IsPlan after) (site : old.site < length before.sites) (group : old.group < length (groups_of before)) where
  -- a new plate with the old plate's path corresponds to it
  pub stands : (new : PlateAt) → IsPlateOf after new → path_below after new ≡ path_below before old
      → (before.edition ≡ after.edition) × (old.ink ≡ new.ink) × StandsFor before old.site (group_at before old.group) after new.site new.group
  stands new is same =
      let names = paths_tell before after old.site new.site (group_at before old.group) (group_at after new.group) old.ink new.ink
      (can_tell before old.site old.group before_is site group) (can_tell after new.site new.group after_is is.site is.group) (sym same) in (
        names.edition,
        names.ink_is,
        record {
          site_within = is.site;
          site_named = sym names.site_named;
          within = is.group;
          section_named = sym names.section_named;
          pair_is = sym names.pair_is;
          of_site = is.of_site;
        },
      )

  has : has_path after (path_below before old) ≡ true
      → (new : PlateAt) × IsPlateOf after new × (path_below after new ≡ path_below before old)
  unfolding has_path
  has is =
      let found = some_plate after (λ plate. bytes_eq (path_below after plate) (path_below before old)) is in
      (found.0, found.1, (bytes_decides (path_below after found.0) (path_below before old)).0 found.2)

  -- an old plate of another edition: no plate has its path
  pub absent_edition : before.edition ≢ after.edition → has_path after (path_below before old) ≡ false
  absent_edition other = false_from_ne_true (has_path after (path_below before old)) (λ is. let new = has is in other (stands new.0 new.1 new.2).0)

  -- an old plate without a corresponding group
  pub absent_place : ((its index : ℕ) → StandsFor before old.site (group_at before old.group) after its index → ⊥) → has_path after (path_below before old) ≡ false
  absent_place none = false_from_ne_true (has_path after (path_below before old)) (λ is. let new = has is in none new.0.site new.0.group (stands new.0 new.1 new.2).2)

  -- an old plate with a corresponding group, which has the ink or doesn't
  pub present : (its index : ℕ) → before.edition ≡ after.edition → StandsFor before old.site (group_at before old.group) after its index
      → has_path after (path_below before old) ≡ has_ink (group_at after index) old.ink
  unfolding has_path
  present its index edition one =
      elim (cases_Bool (has_ink (group_at after index) old.ink)) [
        | inl of_ink ↦
            let new : PlateAt = record { site = its; group = index; ink = old.ink } in
            let same : path_below after new ≡ path_below before old =
            paths_same after before its old.site (group_at after index) (group_at before old.group) old.ink old.ink
            (record { site_named = one.site_named; edition = sym edition; section_named = one.section_named; pair_is = one.pair_is; ink_is = refl }) in
            any_plate after (λ plate. bytes_eq (path_below after plate) (path_below before old)) new
            (record { site = one.site_within; group = one.within; of_site = one.of_site; of_ink = of_ink })
            ((bytes_decides (path_below after new) (path_below before old)).1 same) ∙ sym of_ink
        | inr other ↦
            false_from_ne_true (has_path after (path_below before old)) (λ is.
            let new = has is in
            let at = stands new.0 new.1 new.2 in
            let inks = inks_alike after index new.0.group after_is one.within at.2.within (stand_alike before old.site (group_at before old.group) after its new.0.site index new.0.group after_is one at.2) in
            let there : has_ink (group_at after index) old.ink ≡ true =
            ap (λ all. list_any (λ i. eqb (slot_of i) (slot_of old.ink)) all) inks
            ∙ ap (λ k. list_any (λ i. eqb (slot_of i) (slot_of k)) (inks_of (group_at after new.0.group))) at.1 ∙ new.1.of_ink in
            both_ways (has_ink (group_at after index) old.ink) other there)
            ∙ sym other
      ]
