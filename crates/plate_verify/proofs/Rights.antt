-- That all plates match, and what it means for the files of each site.
use Rattle.std.proofs.Common.{◌≡◌, ℕ, ◌<◌, ◌≤◌, Bool, true, false, cond, List, [], ◌∷◌, length, Option, Some, None, option_map, refl, sym, ap, ◌∙◌, ⊎_elim, arith}
use Rattle.std.specs.Prelude.{All, filter, nat_lt, slice_get, unwrap_or}
use Rattle.std.specs.List.{flat_map, range_with_len}
use Rattle.std.proofs.lemmas.Bool.{cases_lt, lt-ltb, le-ltb, cond-true, cond-false}
use Rattle.pr_base.specs.declared.ink.Ink.{Ink}
use Rattle.pr_ports.specs.Shelf.{held_at}
use Rattle.plan_json.specs.Data.{PlanData}
use Rattle.plan_json.specs.Plan.{IsPlan}
use Rattle.plan_rows.specs.declared.group.Group.{Group}
use Rattle.plan_rows.specs.Groups.{groups_of}
use Rattle.plan_rows.specs.Inks.{inks_of, has_site}
use Rattle.plan_rows.specs.Plates.{PlateOf, group_plates, site_plates, file_of, site_files, plate_rows}
use Rattle.plate_bytes.specs.Places.{row_holding}
use Rattle.pr_ports.specs.Difference.{difference_of}
use Rattle.plate_verify.specs.Order.{SitePlate, plate_sites, plates_in_order}
use Rattle.plate_verify.specs.Wrong.{Found, AllRight, OtherAt, TooMany, NotHeld, wrong_with, wrong_at, wrongs, first_wrong, AreHeld}
use Rattle.plate_verify.proofs.Bounds.{rows-within}
use Rattle.pr_ports.proofs.Differences.{difference-same, difference-none}
use Rattle.plate_verify.proofs.Each.{Each, Each-from_all, all_from_Each, Each-weaker, Each-flat_map, pieces_of_each, Each-map, mapped_each, Each-filter, filtered_each, Each-range, one_of_each, none_found, found_none, Each-swap, Each-found}

-- ---- one plate

some_none : (x : Found) → Some x ≡ None → ⊥
some_none x e = cc

unmapped : {A B : Type 0} (f : A → B) (o : Option A) → option_map f o ≡ None → o ≡ None
unmapped f None e = refl
unmapped f (Some x) e = cc

-- no difference is found only if the right bytes are held
pub right_is_held : (file : List ℕ × List ℕ) (rows : List (List ℕ)) (o : Option (List ℕ)) → wrong_with file rows o ≡ None → o ≡ Some file.1
right_is_held file rows None e = absurd (some_none (NotHeld file.0) e)
right_is_held file rows (Some bytes) e =
    let told : ℕ → Found = λ at. OtherAt file.0 at (row_holding rows at) in
    ⊎_elim
    (λ (long : 600000000 < length bytes).
    absurd (some_none (TooMany file.0) (sym (cond-true (nat_lt 600000000 (length bytes)) (Some (TooMany file.0)) (option_map told (difference_of file.1 bytes)) (lt-ltb 600000000 (length bytes) long)) ∙ e)))
    (λ (short : length bytes ≤ 600000000).
    let none : option_map told (difference_of file.1 bytes) ≡ None =
    sym (cond-false (nat_lt 600000000 (length bytes)) (Some (TooMany file.0)) (option_map told (difference_of file.1 bytes)) (le-ltb 600000000 (length bytes) short)) ∙ e in
    ap {A = List ℕ} (λ l. Some l) (sym (difference-none file.1 bytes (unmapped told (difference_of file.1 bytes) none))))
    (cases_lt 600000000 (length bytes))

-- and the right bytes have no difference, if there are not too many
pub held_is_right : (file : List ℕ × List ℕ) (rows : List (List ℕ)) (o : Option (List ℕ)) → length file.1 ≤ 600000000 → o ≡ Some file.1 → wrong_with file rows o ≡ None
held_is_right file rows o short held =
    let told : ℕ → Found = λ at. OtherAt file.0 at (row_holding rows at) in
    ap (wrong_with file rows) held
    ∙ cond-false (nat_lt 600000000 (length file.1)) (Some (TooMany file.0)) (option_map told (difference_of file.1 file.1)) (le-ltb 600000000 (length file.1) short)
    ∙ ap (option_map told) (difference-same file.1)

-- a difference is never AllRight
pub wrong_is_wrong : (file : List ℕ × List ℕ) (rows : List (List ℕ)) (o : Option (List ℕ)) (n : ℕ) → wrong_with file rows o ≡ Some (AllRight n) → ⊥
wrong_is_wrong file rows None n e = cc
wrong_is_wrong file rows (Some bytes) n e = either (nat_lt 600000000 (length bytes)) (difference_of file.1 bytes) e
  where
    either : (b : Bool) (d : Option ℕ) → cond b (Some (TooMany file.0)) (option_map (λ at. OtherAt file.0 at (row_holding rows at)) d) ≡ Some (AllRight n) → ⊥
    either true d e = cc
    either false None e = cc
    either false (Some at) e = cc

-- ---- all plates

-- a plate of a site is held with the right bytes
abbrev pub IsHeld : PlanData → List (List ℕ) → List ℕ → List (List ℕ × List ℕ) → ℕ → PlateOf → Type 0
IsHeld plan rows out held site plate =
    (let file = file_of plan rows out site plate in held_at held file.0 ≡ Some file.1)

of_group : (plan : PlanData) (P : ℕ → PlateOf → Type 0) (group : Group) → ((i : (s : ℕ) × (s < length plan.sites)) → has_site group i.0 ≡ true → Each (P i.0) (group_plates group))
    → Each (λ (plate : PlateOf). Each (λ (at : SitePlate). P at.0 at.1) (plate_sites plan plate)) (group_plates group)
of_group plan P group own =
    let n : ℕ = length plan.sites in
    let at : SitePlate → Type 0 = λ a. P a.0 a.1 in
    let printed : ((s : ℕ) × (s < n) × (has_site group s ≡ true)) → Ink → Type 0 = λ i ink. P i.0 (group, ink) in
    let each : Each (λ (ink : Ink). (i : (s : ℕ) × (s < n) × (has_site group s ≡ true)) → printed i ink) (inks_of group) =
    Each-swap printed (inks_of group) (λ i. mapped_each (P i.0) (λ (ink : Ink). (group, ink)) (inks_of group) (own (i.0, i.1) i.2)) in
    Each-map (λ (plate : PlateOf). Each at (plate_sites plan plate)) (λ (ink : Ink). (group, ink)) (inks_of group)
    (Each-weaker (λ (ink : Ink). (i : (s : ℕ) × (s < n) × (has_site group s ≡ true)) → printed i ink) (λ (ink : Ink). Each at (plate_sites plan (group, ink)))
    (λ ink there. Each-map at (λ s. (s, (group, ink))) (filter (has_site group) (range_with_len 0 n))
    (Each-filter (λ s. P s (group, ink)) (has_site group) (range_with_len 0 n) (Each-range (λ s. has_site group s ≡ true → P s (group, ink)) 0 n (λ s low high has. there (s, omega arith, has)))))
    (inks_of group) each)

-- a fact about each plate of each site, in the order of all plates, and the converse
pub in_order : (plan : PlanData) (P : ℕ → PlateOf → Type 0) → ((site : ℕ) → site < length plan.sites → Each (P site) (site_plates plan site)) → Each (λ (at : SitePlate). P at.0 at.1) (plates_in_order plan)
unfolding site_plates plates_in_order
in_order plan P each =
    let groups : List Group = groups_of plan in
    let n : ℕ = length plan.sites in
    let at : SitePlate → Type 0 = λ a. P a.0 a.1 in
    let placed : PlateOf → Type 0 = λ plate. Each at (plate_sites plan plate) in
    let of_site : ((s : ℕ) × (s < n)) → Group → Type 0 = λ i group. has_site group i.0 ≡ true → Each (P i.0) (group_plates group) in
    let owned : Each (λ (group : Group). (i : (s : ℕ) × (s < n)) → of_site i group) groups =
    Each-swap of_site groups (λ i. filtered_each (λ (group : Group). Each (P i.0) (group_plates group)) (λ (group : Group). has_site group i.0) groups
    (pieces_of_each (P i.0) group_plates (filter (λ (group : Group). has_site group i.0) groups) (each i.0 i.1))) in
    Each-flat_map at (plate_sites plan) (flat_map group_plates groups)
    (Each-flat_map placed group_plates groups
    (Each-weaker (λ (group : Group). (i : (s : ℕ) × (s < n)) → of_site i group) (λ (group : Group). Each placed (group_plates group)) (λ group own. of_group plan P group own) groups owned))

pub by_site : (plan : PlanData) (P : ℕ → PlateOf → Type 0) → Each (λ (at : SitePlate). P at.0 at.1) (plates_in_order plan) → (site : ℕ) → site < length plan.sites → Each (P site) (site_plates plan site)
unfolding site_plates plates_in_order
by_site plan P each site below =
    let groups : List Group = groups_of plan in
    let at : SitePlate → Type 0 = λ a. P a.0 a.1 in
    let plates : Each (λ (plate : PlateOf). Each at (plate_sites plan plate)) (flat_map group_plates groups) = pieces_of_each at (plate_sites plan) (flat_map group_plates groups) each in
    let parts : Each (λ (group : Group). Each (λ (plate : PlateOf). Each at (plate_sites plan plate)) (group_plates group)) groups =
    pieces_of_each (λ (plate : PlateOf). Each at (plate_sites plan plate)) group_plates groups plates in
    Each-flat_map (P site) group_plates (filter (λ (group : Group). has_site group site) groups)
    (Each-filter (λ (group : Group). Each (P site) (group_plates group)) (λ (group : Group). has_site group site) groups
    (Each-weaker (λ (group : Group). Each (λ (plate : PlateOf). Each at (plate_sites plan plate)) (group_plates group)) (λ (group : Group). has_site group site ≡ true → Each (P site) (group_plates group))
    (λ group own has.
    Each-map (P site) (λ (ink : Ink). (group, ink)) (inks_of group)
    (Each-weaker (λ (ink : Ink). Each at (plate_sites plan (group, ink))) (λ (ink : Ink). P site (group, ink))
    (λ ink there.
    one_of_each (λ s. has_site group s ≡ true → P s (group, ink)) 0 (length plan.sites)
    (filtered_each (λ s. P s (group, ink)) (has_site group) (range_with_len 0 (length plan.sites)) (mapped_each at (λ s. (s, (group, ink))) (filter (has_site group) (range_with_len 0 (length plan.sites))) there))
    site (omega arith) (omega arith) has)
    (inks_of group) (mapped_each (λ (plate : PlateOf). Each at (plate_sites plan plate)) (λ (ink : Ink). (group, ink)) (inks_of group) own)))
    groups parts))

-- ---- the first difference

-- no difference is AllRight
none_right : (plan : PlanData) (rows : List (List ℕ)) (out : List ℕ) (held : List (List ℕ × List ℕ)) → Each (λ x. (m : ℕ) → x ≡ AllRight m → ⊥) (wrongs plan rows out held)
unfolding wrong_at
none_right plan rows out held =
    Each-found (λ x. (m : ℕ) → x ≡ AllRight m → ⊥) (wrong_at plan rows out held) (plates_in_order plan)
    (λ (site, plate) x found m is.
    wrong_is_wrong (file_of plan rows out site plate) (plate_rows plan rows plate) (held_at held (file_of plan rows out site plate).0) m
    (found ∙ ap {A = Found} {B = Option Found} (λ y. Some y) is))

-- if the result is AllRight, no plate differs, and the number is that of the plates
pub same-none : (plan : PlanData) (rows : List (List ℕ)) (out : List ℕ) (held : List (List ℕ × List ℕ)) (n : ℕ) → first_wrong plan rows out held ≡ AllRight n
    → (wrongs plan rows out held ≡ []) × (n ≡ length (plates_in_order plan))
unfolding first_wrong
same-none plan rows out held n e = by_list (wrongs plan rows out held) (none_right plan rows out held) e
  where
    by_list : (found : List Found) → Each (λ x. (m : ℕ) → x ≡ AllRight m → ⊥) found → unwrap_or (slice_get found 0) (AllRight (length (plates_in_order plan))) ≡ AllRight n
        → (found ≡ []) × (n ≡ length (plates_in_order plan))
    by_list [] each e = (refl, cc)
    by_list (x ∷ xs) each e = absurd (each.0 n e)

pub first_none : (plan : PlanData) (rows : List (List ℕ)) (out : List ℕ) (held : List (List ℕ × List ℕ)) → wrongs plan rows out held ≡ []
    → first_wrong plan rows out held ≡ AllRight (length (plates_in_order plan))
unfolding first_wrong
first_none plan rows out held none = ap (λ found. unwrap_or (slice_get found 0) (AllRight (length (plates_in_order plan)))) none

-- if the result is Same, each file of each site is held with the right bytes
pub same_holds : (plan : PlanData) (rows : List (List ℕ)) (out : List ℕ) (held : List (List ℕ × List ℕ)) (n : ℕ) → first_wrong plan rows out held ≡ AllRight n → AreHeld plan rows out held
unfolding wrong_at
same_holds plan rows out held n e site below =
    let right : ℕ → PlateOf → Type 0 = λ s plate. wrong_at plan rows out held (s, plate) ≡ None in
    let each : Each (λ (at : SitePlate). wrong_at plan rows out held at ≡ None) (plates_in_order plan) = none_found (wrong_at plan rows out held) (plates_in_order plan) (same-none plan rows out held n e).0 in
    let own : Each (right site) (site_plates plan site) = by_site plan right each site below in
    all_from_Each (λ (entry : List ℕ × List ℕ). held_at held entry.0 ≡ Some entry.1) (site_files plan rows out site)
    (Each-map (λ (entry : List ℕ × List ℕ). held_at held entry.0 ≡ Some entry.1) (file_of plan rows out site) (site_plates plan site)
    (Each-weaker (right site) (IsHeld plan rows out held site)
    (λ plate none. right_is_held (file_of plan rows out site plate) (plate_rows plan rows plate) (held_at held (file_of plan rows out site plate).0) none)
    (site_plates plan site) own))

-- and if each file is, the result is Same
pub held_same : (plan : PlanData) (rows : List (List ℕ)) (out : List ℕ) (held : List (List ℕ × List ℕ)) → IsPlan plan → All (λ row. length row ≤ 8192) rows
    → AreHeld plan rows out held
    → first_wrong plan rows out held ≡ AllRight (length (plates_in_order plan))
unfolding wrong_at
held_same plan rows out held is small all =
    let right : ℕ → PlateOf → Type 0 = λ s plate. wrong_at plan rows out held (s, plate) ≡ None in
    let each : Each (λ (at : SitePlate). right at.0 at.1) (plates_in_order plan) =
    in_order plan right (λ site below.
    Each-weaker (IsHeld plan rows out held site) (right site)
    (λ plate there. held_is_right (file_of plan rows out site plate) (plate_rows plan rows plate) (held_at held (file_of plan rows out site plate).0) (rows-within plan rows plate is small) there)
    (site_plates plan site)
    (mapped_each (λ (entry : List ℕ × List ℕ). held_at held entry.0 ≡ Some entry.1) (file_of plan rows out site) (site_plates plan site)
    (Each-from_all (λ (entry : List ℕ × List ℕ). held_at held entry.0 ≡ Some entry.1) (site_files plan rows out site) (all site below)))) in
    first_none plan rows out held (found_none (wrong_at plan rows out held) (plates_in_order plan) each)
