-- The plates that the picks report are those that must be made.
use Rattle.std.proofs.Common.{◌≡◌, ℕ, ◌<◌, true, false, eqb, [], length, ap, sym, ◌∙◌, inl, inr, refl}
use Rattle.std.specs.Prelude.{◌↔◌, ◌&&◌, ◌||◌, IsTrue, slice_index_or}
use Rattle.std.specs.List.{list_any}
use Rattle.std.proofs.lemmas.Bool.{and_from, and_parts, both_ways, cases_Bool, not-true, not_from_false}
use Rattle.pr_base.proofs.Inks.{slot_below}
use Rattle.plan_json.specs.Plan.{IsPlan}
use Rattle.pr_base.specs.Ink.{slot_of}
use Rattle.plan_rows.specs.Groups.{groups_of, page_colour, page_spot}
use Rattle.plan_rows.specs.Inks.{has_ink, inks_of}
use Rattle.plan_rows.proofs.GroupLemmas.{inks_by}
use Rattle.replate.specs.Inputs.{JobData}
use Rattle.replate.specs.Picks.{MustMake, PicksData, is_made, recipe_at}
use Rattle.replate.specs.Plates.{IsPlateOf, PlateAt, group_at, path_below}
use Rattle.replate.specs.Recipe.{Recipe, page_recipe, recipe_of, screen_of, screen_recipe}
use Rattle.replate.specs.Standing.{AreAllKept, IsAlike, SamePages}
use Rattle.replate.proofs.GroupLemmas.{group_in_plan}
use Rattle.plan_rows.proofs.Names.{paths_same}
use Rattle.replate.proofs.PlateLemmas.{stands}

-- groups of two jobs that print the same pages have the same inks
page_inks : (before after : JobData) (i j : ℕ) → IsPlan before.plan → IsPlan after.plan → i < length (groups_of before.plan) → j < length (groups_of after.plan)
    → SamePages before (group_at before.plan i) after (group_at after.plan j) → inks_of (group_at before.plan i) ≡ inks_of (group_at after.plan j)
unfolding page_recipe
page_inks before after i j before_is after_is left right same =
    let a = group_at before.plan i in
    let b = group_at after.plan j in
    let first = group_in_plan before.plan i before_is left in
    let second = group_in_plan after.plan j after_is right in
    let colours : (page_colour before.plan a.left || page_colour before.plan a.right) ≡ (page_colour after.plan b.left || page_colour after.plan b.right) =
    λ k. (same.left k).colour || (same.right k).colour in
    let spots : (page_spot before.plan a.left || page_spot before.plan a.right) ≡ (page_spot after.plan b.left || page_spot after.plan b.right) =
    λ k. (same.left k).spot || (same.right k).spot in
    inks_by a b (first.colour ∙ colours ∙ sym second.colour) (first.spot ∙ spots ∙ sym second.spot)

-- equal recipes
recipes_tell : (before after : JobData) (old new : PlateAt) → recipe_at before old ≡ recipe_at after new → before.plan.edition ≡ after.plan.edition → old.ink ≡ new.ink
    → IsAlike before.plan after.plan (slot_of new.ink)
unfolding recipe_of
recipes_tell before after old new same edition ink = record {
  edition = edition;
  settings = ap {A = Recipe} (λ r. r.settings) same;
  screen = ap (λ i. screen_recipe before.plan (screen_of before.plan i)) (sym ink) ∙ ap {A = Recipe} (λ r. r.screen) same;
}

pages_tell : (before after : JobData) (old new : PlateAt) → recipe_at before old ≡ recipe_at after new
    → SamePages before (group_at before.plan old.group) after (group_at after.plan new.group)
unfolding recipe_of
pages_tell before after old new same = record { left = ap {A = Recipe} (λ r. r.left) same; right = ap {A = Recipe} (λ r. r.right) same }

recipes_same : (before after : JobData) (old new : PlateAt) → old.ink ≡ new.ink → IsAlike before.plan after.plan (slot_of new.ink)
    → SamePages before (group_at before.plan old.group) after (group_at after.plan new.group) → recipe_at before old ≡ recipe_at after new
unfolding recipe_of
recipes_same before after old new ink alike pages =
    let screen = ap (λ i. screen_recipe before.plan (screen_of before.plan i)) ink ∙ alike.screen in
    λ k. record { settings = alike.settings k; screen = screen k; left = pages.left k; right = pages.right k }

-- what comparing two jobs found
pub record Compared (before after : JobData) (picks : PicksData) : Type 0 where
  pub before_is : IsPlan before.plan
  pub after_is : IsPlan after.plan
  pub alike : (slot : ℕ) → slot < 5 → IsTrue (slice_index_or picks.alike slot false) ↔ IsAlike before.plan after.plan slot
  pub kept : AreAllKept before after (length (groups_of after.plan)) picks.kept

module _ (before after : JobData) (picks : PicksData) (are : Compared before after picks) (new : PlateAt) (is : IsPlateOf after.plan new) where
  must : IsTrue (is_made picks new.site new.group new.ink) → MustMake before after new
  must made old old_is path same =
      let by = stands after.plan before.plan new are.after_is are.before_is is.site is.group old old_is path in
      let first = (are.alike (slot_of new.ink) (slot_below new.ink)).1 (recipes_tell before after old new same (sym by.0) (sym by.1)) in
      let second = (are.kept.rows new.group is.group).each new.site old.site old.group is.site is.of_site (record { stands = by.2; pages = pages_tell before after old new same }) in
      both_ways (slice_index_or picks.alike (slot_of new.ink) false && slice_index_or (slice_index_or picks.kept new.group []) new.site false)
      (not-true (slice_index_or picks.alike (slot_of new.ink) false && slice_index_or (slice_index_or picks.kept new.group []) new.site false) made)
      (and_from (slice_index_or picks.alike (slot_of new.ink) false) (slice_index_or (slice_index_or picks.kept new.group []) new.site false) first second)

  told : MustMake before after new → IsTrue (is_made picks new.site new.group new.ink)
  told makes =
      let a = slice_index_or picks.alike (slot_of new.ink) false in
      let b = slice_index_or (slice_index_or picks.kept new.group []) new.site false in
      elim (cases_Bool (a && b)) [
        | inl both ↦
            let parts = and_parts a b both in
            let alike = (are.alike (slot_of new.ink) (slot_below new.ink)).0 parts.0 in
            let found = (are.kept.rows new.group is.group).stays new.site is.site parts.1 in
            let one = found.1.1 in
            let old : PlateAt = record { site = found.0; group = found.1.0; ink = new.ink } in
            let inks = page_inks before after found.1.0 new.group are.before_is are.after_is one.stands.within is.group one.pages in
            let of_ink : has_ink (group_at before.plan found.1.0) new.ink ≡ true =
            ap (λ all. list_any (λ other. eqb (slot_of other) (slot_of new.ink)) all) inks ∙ is.of_ink in
            let old_is : IsPlateOf before.plan old = record { site = one.stands.site_within; group = one.stands.within; of_site = one.stands.of_site; of_ink = of_ink } in
            let path : path_below before.plan old ≡ path_below after.plan new =
            paths_same before.plan after.plan found.0 new.site (group_at before.plan found.1.0) (group_at after.plan new.group) new.ink new.ink (record {
              site_named = one.stands.site_named;
              edition = alike.edition;
              section_named = one.stands.section_named;
              pair_is = one.stands.pair_is;
              ink_is = refl;
            }) in
            absurd (makes old old_is path (recipes_same before after old new refl alike one.pages))
        | inr not_both ↦ not_from_false (a && b) not_both
      ]

  pub picks_tell : IsTrue (is_made picks new.site new.group new.ink) ↔ MustMake before after new
  picks_tell = (must, told)
