-- The slots but that of one plate, where a call of the rack for this plate was refused.
use Rattle.std.proofs.Common.{◌≡◌, ◌≢◌, ℕ, ◌<◌, Bool, true, false, if◌then◌else◌, List, length, Option, Some, None, refl, sym, ap, subst, ◌∙◌, ⊎_elim, arith}
use Rattle.std.specs.Prelude.{◌==◌, is_some, slice_get, slice_set, IfSome}
use Rattle.std.specs.Option.{option_map}
use Rattle.std.proofs.lemmas.Bool.{cases_eq}
use Rattle.std.proofs.lemmas.List.{get_or-set_other, length-set, set-set}
use Rattle.std.proofs.lemmas.Option.{get_or_from_slice_get, same_Some, slice_get-get_or, slice_get_within}
use Rattle.ring_lanes.specs.declared.source.Source.{Source}
use Rattle.tif_packbits.specs.Frame.{packed_in}
use Rattle.pr_rack.specs.Rack.{OthersStand, Plate, Slots, plate_in, with_bytes, with_plate}
use Rattle.pr_rack.specs.Told.{Tells}
use Rattle.tif_plate.specs.Tail.{front_bytes}
use Rattle.site_agent.specs.declared.plate.SitePlate.{SitePlate}
use Rattle.site_agent.specs.Given.{IsRowOf}
use Rattle.site_agent.specs.Job.{IsJob, SiteJob}
use Rattle.site_agent.specs.Refused.{OthersStay, OthersStayFor}
use Rattle.site_agent.specs.Stands.{Holds, HoldsBut, OthersHold, StandsAfter, files_below, plate_below, taken_below}
use Rattle.site_agent.specs.Tells.{begun_at, with_begin, with_taken}
use Rattle.site_agent.proofs.Holding.{Work, get-set_other}
use Rattle.site_agent.proofs.Opens.{no_other, plate_at}

-- ---- the calls before the refused one

pub stay-then : (slot : ℕ) (first old new : Tells) → OthersStay slot first old → OthersStay slot old new
    → OthersStay slot first new
stay-then slot first old new before after = record { begun = after.begun ∙ before.begun; working = after.working ∙ before.working }

-- a plate was put into its slot
put-stays : (slot : ℕ) (plate : Option Plate) (working : Option Slots)
    → OthersStand slot working (with_plate slot plate working)
put-stays slot plate None = refl
put-stays slot plate (Some slots) = ap Some (set-set slots slot plate None)

begin-stays : (plate : SitePlate) (old : Tells) → OthersStay plate.slot old (with_begin plate old)
begin-stays plate old = record {
  begun = set-set old.begun plate.slot true false;
  working = put-stays plate.slot (Some (plate.path, front_bytes)) old.working;
}

-- the plate was begun, or had been
pub begun-stays : (y : ℕ) (plate : SitePlate) (old new : Tells) → new ≡ begun_at y plate old
    → OthersStay plate.slot old new
begun-stays y plate old new is = subst (OthersStay plate.slot old) (sym is) (by (y == 0)) where
  by : (first : Bool) → OthersStay plate.slot old (if first then with_begin plate old else old)
  by true = begin-stays plate old
  by false = record { begun = refl; working = refl }

-- a row was taken for it
pub taken-stays : (slot number : ℕ) (frame : List ℕ) (source : Source) (old new : Tells)
    → new ≡ with_taken slot number frame source old → OthersStay slot old new
taken-stays slot number frame source old new is = subst (OthersStay slot old) (sym is) (record {
  begun = refl;
  working = put-stays slot (option_map (with_bytes (packed_in frame)) (plate_in old.working slot)) old.working;
})

-- ---- row by row

-- no row belongs to two plates
pub one-plate : (job : SiteJob) (n k y j z : ℕ) (d : SitePlate) → IsJob job → IsRowOf job n k y
    → IsRowOf job n j z → j ≡ k
one-plate job n k y j z d is row other =
    ⊎_elim
    (λ (same : j ≡ k). same)
    (λ (apart : j ≢ k). absurd (no_other job n k y j z d is row other.within apart other.below (other.number d)))
    (cases_eq j k)

-- so the slots but that of the row's plate are as before
pub row-stays : (job : SiteJob) (n k y : ℕ) (d : SitePlate) (old new : Tells) → IsJob job → IsRowOf job n k y
    → ((e : SitePlate) → OthersStay (plate_at job k e).slot old new) → OthersStayFor job n old new
row-stays job n k y d old new is row stay =
    λ j z e other. subst (λ (i : ℕ). OthersStay (plate_at job i e).slot old new) (sym (one-plate job n k y j z e is row other)) (stay e)

-- ---- what they hold

get-unset : {X : Type 0} (xs : List X) (i j : ℕ) (x y : X) → j ≢ i → slice_get (slice_set xs i x) j ≡ Some y
    → slice_get xs j ≡ Some y
get-unset xs i j x y apart there =
    let within : j < length (slice_set xs i x) = slice_get_within (slice_set xs i x) j y there in
    slice_get-get_or xs j y (omega (arith, length-set xs i x))
    ∙ ap Some (sym (get_or-set_other xs i j x y apart) ∙ get_or_from_slice_get (slice_set xs i x) j y y there)

-- an entry of a list that is as before but for another one
get-stays : {X : Type 0} (old new : List X) (i j : ℕ) (x y : X) → j ≢ i
    → slice_set new i x ≡ slice_set old i x → slice_get old j ≡ Some y → slice_get new j ≡ Some y
get-stays old new i j x y apart same there =
    get-unset new i j x y apart (ap (λ list. slice_get list j) same ∙ get-set_other old i j x y apart there)

-- the plates in them, where known
work-stays : (own : ℕ) (open' : ℕ → Option Plate) (old new : Option Slots) → OthersStand own old new
    → Work open' old
    → IfSome new (λ slots. (slot : ℕ) → slot < 5 → slot ≢ own → slice_get slots slot ≡ Some (open' slot))
work-stays own open' old None same work = tt
work-stays own open' None (Some slots) same work = absurd (let e : Some (slice_set slots own None) ≡ None = same in cc)
work-stays own open' (Some before) (Some slots) same work =
    λ slot less apart. get-stays before slots own slot None (open' slot) apart (same_Some _ _ same) (work slot less)

pub others-hold : (files : List Plate) (rows : List (ℕ × Source)) (open' : ℕ → Option Plate)
    (before old new : Tells) (own : ℕ) → Holds files rows open' before old → OthersStay own old new
    → HoldsBut own open' new
others-hold files rows open' before old new own holds stay = record {
  begun = λ slot less apart. get-stays old.begun new.begun own slot false (is_some (open' slot)) apart stay.begun (holds.begun slot less);
  working = work-stays own open' old.working new.working stay.working holds.working;
}

-- where a site stopped at row n, the other slots have what they had before it
pub others-hold_at : (job : SiteJob) (rows : List (List ℕ)) (source : Source) (n : ℕ) (before old new : Tells)
    (counts : List (List ℕ)) → StandsAfter job rows source n before old counts → OthersStayFor job n old new
    → OthersHold job rows n new
others-hold_at job rows source n before old new counts stands stay =
    λ k y d row. others-hold (files_below job rows n) (taken_below job source n) (plate_below job rows n) before old new (plate_at job k d).slot stands.rack (stay k y d row)
