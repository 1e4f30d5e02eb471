-- Groups in order: each receives its own rows, and all plates are those of all groups.
use Rattle.std.proofs.Common.{◌≡◌, ℕ, ◌+◌, ◌*◌, ◌<◌, ◌≤◌, List, [], ◌∷◌, ◌++◌, length, map, take, get_or, Option, Some, Result, refl, sym, ap, ◌∙◌, subst, ⊎_elim, arith}
use Rattle.std.specs.Prelude.{slice_get}
use Rattle.std.specs.List.{flat_map}
use Rattle.std.proofs.lemmas.Bool.{cases_lt}
use Rattle.std.proofs.lemmas.List.{length-append, get_or_append_left}
use Rattle.std.proofs.lemmas.List.Elements.{All-get_or}
use Rattle.std.proofs.lemmas.Grind.{flat_map-append}
use Rattle.std.proofs.lemmas.Option.{get_or_from_slice_get}
use Rattle.std.proofs.Math.Seq.{get_or-append_seam}
use Rattle.pr_base.specs.declared.ink.Ink.{Ink}
use Rattle.plan_json.specs.Data.{PlanData, plate_height}
use Rattle.plan_json.specs.Plan.{IsPlan}
use Rattle.plan_rows.specs.declared.group.Group.{Group}
use Rattle.plan_rows.specs.Groups.{groups_of, row_count}
use Rattle.plan_rows.specs.Inks.{inks_of, ink_count}
use Rattle.plan_rows.specs.Plates.{group_plates}
use Rattle.plan_rows.specs.Rows.{RowPlanData, rows_of, row_total, rows_before}
use Rattle.plan_rows.proofs.GroupLemmas.{InPlan, groups_in_plan}
use Rattle.plan_rows.proofs.Places.{plan_is}
use Rattle.plan_rows.proofs.RowLemmas.{first_is, rows_before-more, rows_before-within}
use Rattle.plate_bytes.specs.Made.{PlateState, so_far}
use Rattle.plate_verify.specs.declared.checked.Checked.{Checked}
use Rattle.plate_verify.specs.declared.checked.VerifyFault.{VerifyFault}
use Rattle.plate_verify.specs.Order.{SitePlate, plate_sites, plates_in_order}
use Rattle.plate_verify.specs.Verifying.{ShelfTold, AreRight, Verified, group_sites}
use Rattle.plate_verify.specs.Making.{HaveSides}
use Rattle.tif_plate.specs.declared.sides.Sides.{Sides}
use Rattle.plate_verify.specs.Verify.{FedFrom, FedGroup}
use Rattle.plate_verify.proofs.VerifyLemmas.{IsStopped, none_verified, verified_more, verified_stops, verified_all}

-- ---- the order of all plates

ink_by_ink : (plan : PlanData) (group : Group) (inks : List Ink) → flat_map (plate_sites plan) (map (λ ink. (group, ink)) inks) ≡ flat_map (λ ink. plate_sites plan (group, ink)) inks
ink_by_ink plan group [] = refl
ink_by_ink plan group (ink ∷ inks) = ap (λ l. plate_sites plan (group, ink) ++ l) (ink_by_ink plan group inks)

group_by_group : (plan : PlanData) (groups : List Group) → flat_map (plate_sites plan) (flat_map group_plates groups) ≡ flat_map (group_sites plan) groups
group_by_group plan [] = refl
group_by_group plan (group ∷ groups) =
    flat_map-append (plate_sites plan) (group_plates group) (flat_map group_plates groups)
    ∙ ap (λ l. l ++ flat_map (plate_sites plan) (flat_map group_plates groups)) (ink_by_ink plan group (inks_of group))
    ∙ ap (λ l. group_sites plan group ++ l) (group_by_group plan groups)

pub order_is : (plan : PlanData) → plates_in_order plan ≡ flat_map (group_sites plan) (groups_of plan)
unfolding plates_in_order
order_is plan = group_by_group plan (groups_of plan)

-- ---- groups

pub record VerifiedTo (plan : PlanData) (rows : List (List ℕ)) (out : List ℕ) (index : ℕ) (old new : ShelfTold) (plates : List PlateState) (left : List (List ℕ)) (len : ℕ) : Type 0 where
  pub right : AreRight plan rows out (flat_map (group_sites plan) (take index (groups_of plan))) old new
  pub fed : FedFrom plan rows (rows_before (rows_of plan) index) plates left len

pub verified_to-none : (plan : PlanData) (rows : List (List ℕ)) (out : List ℕ) (told : ShelfTold) (plates : List PlateState) (left : List (List ℕ)) (len : ℕ) → FedFrom plan rows 0 plates left len
    → VerifiedTo plan rows out 0 told told plates left len
verified_to-none plan rows out told plates left len fed = record { right = none_verified plan rows out told; fed = fed }

-- the rows of a group are the next
pub fed_group : (plan : PlanData) (rows : List (List ℕ)) (out : List ℕ) (index : ℕ) (group : Group) (old new : ShelfTold) (plates : List PlateState) (left : List (List ℕ)) (len : ℕ) → IsPlan plan
    → length rows ≡ row_total (rows_of plan) → index < length (groups_of plan) → group ≡ get_or (groups_of plan) index group → VerifiedTo plan rows out index old new plates left len
    → FedGroup plan rows group plates left len
fed_group plan rows out index group old new plates left len is all below there to =
    let first : group.first ≡ rows_before (rows_of plan) index =
    ap {A = Group} (λ g. g.first) there ∙ first_is (row_total (rows_of plan)) (rows_of plan) index group (plan_is plan is) below in
    let own : plate_height plan * ink_count group ≡ row_count (plate_height plan) (get_or (groups_of plan) index group) = ap {A = Group} (λ g. plate_height plan * ink_count g) there in
    let more : rows_before (rows_of plan) (index + 1) ≡ rows_before (rows_of plan) index + row_count (plate_height plan) (get_or (groups_of plan) index group) = rows_before-more (rows_of plan) index group below in
    record {
      fed = subst {A = ℕ} (λ n. FedFrom plan rows n plates left len) (sym first) to.fed;
      enough = omega (arith, first, own, more, rows_before-within (rows_of plan) (index + 1), all);
    }

pub verified_to-more : (plan : PlanData) (rows : List (List ℕ)) (out : List ℕ) (index : ℕ) (group : Group) (a b c : ShelfTold) (plates plates' : List PlateState) (left left' : List (List ℕ)) (len len' : ℕ) → IsPlan plan
    → index < length (groups_of plan) → group ≡ get_or (groups_of plan) index group → VerifiedTo plan rows out index a b plates left len → AreRight plan rows out (group_sites plan group) b c
    → FedFrom plan rows (group.first + plate_height plan * ink_count group) plates' left' len' → VerifiedTo plan rows out (index + 1) a c plates' left' len'
verified_to-more plan rows out index group a b c plates plates' left left' len len' is below there to right fed =
    let first : group.first ≡ rows_before (rows_of plan) index =
    ap {A = Group} (λ g. g.first) there ∙ first_is (row_total (rows_of plan)) (rows_of plan) index group (plan_is plan is) below in
    let own : plate_height plan * ink_count group ≡ row_count (plate_height plan) (get_or (groups_of plan) index group) = ap {A = Group} (λ g. plate_height plan * ink_count g) there in
    let more : rows_before (rows_of plan) (index + 1) ≡ rows_before (rows_of plan) index + row_count (plate_height plan) (get_or (groups_of plan) index group) = rows_before-more (rows_of plan) index group below in
    let next : group.first + plate_height plan * ink_count group ≡ rows_before (rows_of plan) (index + 1) = omega (arith, first, own, more) in
    record {
      right = verified_more plan rows out (group_sites plan) (groups_of plan) index group a b c below there to.right right;
      fed = subst {A = ℕ} (λ n. FedFrom plan rows n plates' left' len') next fed;
    }

pub verified_to-stop : (plan : PlanData) (rows : List (List ℕ)) (out : List ℕ) (index : ℕ) (group : Group) (a b c : ShelfTold) (plates : List PlateState) (left : List (List ℕ)) (len : ℕ) (r : Result (Option Checked) VerifyFault)
    → index < length (groups_of plan) → group ≡ get_or (groups_of plan) index group → VerifiedTo plan rows out index a b plates left len → Verified plan rows out (group_sites plan group) b c r → IsStopped r
    → Verified plan rows out (plates_in_order plan) a c r
verified_to-stop plan rows out index group a b c plates left len r below there to verified stops =
    subst {A = List SitePlate} (λ l. Verified plan rows out l a c r) (sym (order_is plan))
    (verified_stops plan rows out (group_sites plan) (groups_of plan) index group a b c r below there to.right verified stops)

pub verified_to-all : (plan : PlanData) (rows : List (List ℕ)) (out : List ℕ) (index : ℕ) (a b : ShelfTold) (plates : List PlateState) (left : List (List ℕ)) (len : ℕ) → length (groups_of plan) ≤ index
    → VerifiedTo plan rows out index a b plates left len → AreRight plan rows out (plates_in_order plan) a b
verified_to-all plan rows out index a b plates left len past to =
    subst {A = List SitePlate} (λ l. AreRight plan rows out l a b) (sym (order_is plan)) (verified_all plan rows out (group_sites plan) (groups_of plan) index a b past to.right)

-- one more plate in memory
pub sides_more : (sides : Sides) (plates : List PlateState) (plate : PlateState) → HaveSides sides plates → plate ≡ so_far sides.width sides.height sides.dpi [] → HaveSides sides (plates ++ plate ∷ [])
unfolding so_far
sides_more sides plates plate have is = record {
  width = λ i d below. field (λ p. p.width) sides.width have.width (ap {A = PlateState} (λ p. p.width) is) i d below;
  height = λ i d below. field (λ p. p.height) sides.height have.height (ap {A = PlateState} (λ p. p.height) is) i d below;
  dpi = λ i d below. field (λ p. p.dpi) sides.dpi have.dpi (ap {A = PlateState} (λ p. p.dpi) is) i d below;
}
  where
    field : (f : PlateState → ℕ) (x : ℕ) → ((j : ℕ) (e : PlateState) → j < length plates → f (get_or plates j e) ≡ x) → f plate ≡ x → (i : ℕ) (d : PlateState) → i < length (plates ++ plate ∷ []) → f (get_or (plates ++ plate ∷ []) i d) ≡ x
    field f x old new i d below =
        ⊎_elim
        (λ (early : i < length plates). ap f (get_or_append_left plates (plate ∷ []) d i early) ∙ old i d early)
        (λ (late : length plates ≤ i).
        let here : i ≡ length plates = omega (arith, length-append plates (plate ∷ [])) in
        ap (λ n. f (get_or (plates ++ plate ∷ []) n d)) here ∙ ap f (get_or-append_seam plates plate [] d) ∙ new)
        (cases_lt i (length plates))

-- the number of groups that a row plan has
pub number_is : (plan : PlanData) (rows : RowPlanData) → rows ≡ rows_of plan → length rows.groups ≡ length (groups_of plan)
number_is plan rows are = ap {A = RowPlanData} (λ r. length r.groups) are

-- a group of the row plan is that of the plan
pub group_is : (plan : PlanData) (rows : RowPlanData) (index : ℕ) (group : Group) → rows ≡ rows_of plan → slice_get rows.groups index ≡ Some group → group ≡ get_or (groups_of plan) index group
group_is plan rows index group are there =
    sym (get_or_from_slice_get (groups_of plan) index group group (ap {A = RowPlanData} (λ r. slice_get r.groups index) (sym are) ∙ there))

-- each group belongs to a section of the plan
pub section_at : (plan : PlanData) (index : ℕ) (group : Group) → IsPlan plan → group ≡ get_or (groups_of plan) index group → index < length (groups_of plan) → group.section < length plan.sections
section_at plan index group is own below =
    (let of : InPlan plan (get_or (groups_of plan) index group) = All-get_or (InPlan plan) (groups_of plan) index group below (groups_in_plan plan is) in
    subst {A = Group} (λ g. g.section < length plan.sections) (sym own) of.section)
