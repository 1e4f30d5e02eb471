-- The rows that a site keeps are the rows of its plates.
use Rattle.std.proofs.Common.{◌≡◌, ℕ, zero, suc, Bool, true, false, List, [], ◌∷◌, ◌++◌, Some, ap, sym, ◌∙◌}
use Rattle.std.specs.Prelude.{Contains, filter, slice_get}
use Rattle.std.specs.List.{flat_map}
use Rattle.std.specs.Option.{option_map_or}
use Rattle.std.proofs.lemmas.Bool.{cond-true, cond_both}
use Rattle.std.proofs.lemmas.Option.{slice_get-get_or, slice_get-map, same_Some}
use Rattle.std.specs.Option.{option_map}
use Rattle.pr_base.specs.declared.ink.Ink.{Ink}
use Rattle.plan_json.specs.Data.{PlanData}
use Rattle.plan_json.specs.Plan.{IsPlan}
use Rattle.plan_rows.specs.declared.group.Group.{Group}
use Rattle.plan_rows.specs.Inks.{inks_of, has_site}
use Rattle.plan_rows.specs.Groups.{groups_of}
use Rattle.plan_rows.specs.Rows.{is_of, keeps_row}
use Rattle.plan_rows.specs.Plates.{group_plates, site_plates}
use Rattle.plan_rows.proofs.Places.{IsRowAt, row_placed}

-- a site keeps a row exactly if it belongs to the row's group
pub keeps_of : (plan : PlanData) (site n index : ℕ) (group : Group) (y : ℕ) (ink : Ink) → IsPlan plan → IsRowAt plan n index group y ink → keeps_row plan site n ≡ has_site group site
keeps_of plan site n index group y ink is at =
    ap (λ o. option_map_or (λ place. is_of (groups_of plan) site place.group) o false) (row_placed plan n index group y ink is at)
    ∙ ap (λ o. option_map_or (λ g. has_site g site) o false) at.of

get_left : {X : Type 0} (xs ys : List X) (k : ℕ) (x : X) → slice_get xs k ≡ Some x → slice_get (xs ++ ys) k ≡ Some x
get_left [] ys k x there = cc
get_left (z ∷ xs) ys zero x there = there
get_left (z ∷ xs) ys (suc k) x there = get_left xs ys k x there

get_right : {X : Type 0} (xs ys : List X) (k : ℕ) (y : X) → slice_get ys k ≡ Some y → (i : ℕ) × (slice_get (xs ++ ys) i ≡ Some y)
get_right [] ys k y there = (k, there)
get_right (x ∷ xs) ys k y there = (let rest = get_right xs ys k y there in (suc rest.0, rest.1))

plate_among : (test : Group → Bool) (groups : List Group) (index : ℕ) (group : Group) (ink : Ink) → slice_get groups index ≡ Some group → test group ≡ true → Contains (inks_of group) ink
    → (i : ℕ) × (◌≡◌ (slice_get (flat_map group_plates (filter test groups)) i) (Some (group, ink)))
plate_among test [] index group ink there passes printed = cc
plate_among test (other ∷ groups) zero group ink there passes (k, within, ink_is) =
    let same : other ≡ group = same_Some other group there in
    let others : List Group = filter test groups in
    let first : filter test (other ∷ groups) ≡ group ∷ others =
    cond-true {A = List Group} (test other) (other ∷ others) others (ap test same ∙ passes) ∙ ap {A = Group} (λ g. g ∷ others) same in
    let own : slice_get (group_plates group) k ≡ Some (group, ink) =
    slice_get-map (λ i. (group, i)) (inks_of group) k ∙ ap (λ o. option_map (λ i. (group, i)) o) (slice_get-get_or (inks_of group) k ink within ∙ ap {A = Ink} (λ i. Some i) ink_is) in
    (k, ap (λ gs. slice_get (flat_map group_plates gs) k) first ∙ get_left (group_plates group) (flat_map group_plates others) k (group, ink) own)
plate_among test (other ∷ groups) (suc index) group ink there passes printed =
    let others : List Group = filter test groups in
    let rest = plate_among test groups index group ink there passes printed in
    cond_both {A = List Group} (test other) (other ∷ others) others (λ gs. (i : ℕ) × (slice_get (flat_map group_plates gs) i ≡ Some (group, ink)))
    (λ _. get_right (group_plates other) (flat_map group_plates others) rest.0 (group, ink) rest.1)
    (λ _. rest)

-- the plate of a row that a site keeps is one of the site's plates
pub kept_plate : (plan : PlanData) (site n index : ℕ) (group : Group) (y : ℕ) (ink : Ink) → IsPlan plan → IsRowAt plan n index group y ink → keeps_row plan site n ≡ true
    → (i : ℕ) × (◌≡◌ (slice_get (site_plates plan site) i) (Some (group, ink)))
unfolding site_plates
kept_plate plan site n index group y ink is at keeps =
    plate_among (λ g. has_site g site) (groups_of plan) index group ink at.of (sym (keeps_of plan site n index group y ink is at) ∙ keeps) at.printed
