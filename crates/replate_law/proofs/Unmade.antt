-- A plate that need not be made is already present.
use Rattle.std.proofs.Common.{◌≡◌, refl, ap, sym, ◌∙◌, inl, inr}
use Rattle.std.specs.Prelude.{IsTrue}
use Rattle.std.specs.Str.{bytes_eq}
use Rattle.std.specs.Cmp.Lexicographic.{bytes_decides}
use Rattle.std.proofs.lemmas.Bool.{both_ways, cases_Bool, true_from_ne_false}
use Rattle.plan_json.specs.Plan.{IsPlan}
use Rattle.replate.specs.Inputs.{JobData}
use Rattle.replate.specs.Picks.{MustMake, recipe_at}
use Rattle.replate.specs.Plates.{IsPlateOf, PlateAt, group_at, has_path, path_below}
use Rattle.replate.specs.Recipe.{recipe_of}
use Rattle.replate.proofs.GroupLemmas.{stand_alike}
use Rattle.replate.proofs.PlateLemmas.{any_plate, stands}
use Rattle.replate_law.specs.Law.{bytes_of_plate}
use Rattle.replate_law.proofs.Printed.{file_by, file_is}

pub held : (before after : JobData) (new : PlateAt) → IsPlan before.plan → (MustMake before after new → ⊥) → IsTrue (has_path before.plan (path_below after.plan new))
unfolding has_path
held before after new is unmade =
    true_from_ne_false (has_path before.plan (path_below after.plan new)) (λ none. unmade (λ old old_is path _.
    both_ways (has_path before.plan (path_below after.plan new)) none
    (any_plate before.plan (λ plate. bytes_eq (path_below before.plan plate) (path_below after.plan new)) old old_is ((bytes_decides (path_below before.plan old) (path_below after.plan new)).1 path))))

-- plates of a job with the same path have the same recipe and ink
pub one_recipe : (job : JobData) (a b : PlateAt) → IsPlan job.plan → IsPlateOf job.plan a → IsPlateOf job.plan b → path_below job.plan a ≡ path_below job.plan b
    → (recipe_at job a ≡ recipe_at job b) × (a.ink ≡ b.ink)
one_recipe job a b is a_is b_is path =
    let plan = job.plan in
    let one = stands plan plan a is is a_is.site a_is.group a a_is refl in
    let two = stands plan plan a is is a_is.site a_is.group b b_is (sym path) in
    let alike = stand_alike plan a.site (group_at plan a.group) plan a.site b.site a.group b.group is one.2 two.2 in
    let ink = two.1 in (
      ap (λ l. recipe_of plan job.files l (group_at plan a.group).right a.ink) alike.left
          ∙ ap (λ r. recipe_of plan job.files (group_at plan b.group).left r a.ink) alike.right
          ∙ ap (λ i. recipe_of plan job.files (group_at plan b.group).left (group_at plan b.group).right i) ink,
      ink,
    )

pub same : (before after : JobData) (old new : PlateAt) → IsPlan before.plan → IsPlan after.plan → IsPlateOf before.plan old → IsPlateOf after.plan new
    → path_below before.plan old ≡ path_below after.plan new → (MustMake before after new → ⊥) → bytes_of_plate before old ≡ bytes_of_plate after new
same before after old new before_is after_is old_is new_is path unmade =
    let a = bytes_of_plate before old in
    let b = bytes_of_plate after new in
    let ink = (stands before.plan after.plan old before_is after_is old_is.site old_is.group new new_is (sym path)).1 in
    elim (cases_Bool (bytes_eq a b)) [
      | inl equal ↦ (bytes_decides a b).0 equal
      | inr differ ↦ absurd (unmade (λ other other_is other_path recipe.
          let one = one_recipe before old other before_is old_is other_is (path ∙ sym other_path) in
          let bytes : a ≡ b =
          file_is before old before_is old_is ∙ ap (λ r. file_by r old.ink) (one.0 ∙ recipe) ∙ ap (λ i. file_by (recipe_at after new) i) ink
          ∙ sym (file_is after new after_is new_is) in
          both_ways (bytes_eq a b) differ ((bytes_decides a b).1 bytes)))
    ]
