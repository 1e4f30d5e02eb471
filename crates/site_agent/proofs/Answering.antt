-- What a result says, by its variant.
use Rattle.std.proofs.Common.{◌≡◌, ◌≢◌, ℕ, ◌+◌, ◌≤◌, ◌<◌, List, ◌++◌, length, map, Option, Some, None, Result, Ok, Err, OnOk, IfSome, refl, sym, ap, subst, ◌∙◌, ⊎_elim, arith}
use Rattle.std.specs.Prelude.{◌==◌, is_some, slice_get, slice_set, slice_index_or, nat_lt}
use Rattle.std.specs.Option.{option_map}
use Rattle.std.proofs.lemmas.Bool.{cases_eq, cases_lt, cond-true, cond-false, eq-eqb, ne_eqb}
use Rattle.std.proofs.lemmas.List.{length-append, length-map, get_or-set_same, get_or_past}
use Rattle.std.proofs.lemmas.Option.{slice_get_within}
use Rattle.pr_rack.specs.Rack.{Plate, Slots, with_more, with_plate}
use Rattle.ring_lanes.specs.declared.source.Source.{Source}
use Rattle.tif_packbits.specs.Frame.{packed_in}
use Rattle.tif_plate.specs.Tail.{front_bytes, tail_bytes, tail_offset}
use Rattle.pr_rack.specs.Told.{Tells}
use Rattle.site_agent.specs.declared.plate.SitePlate.{SitePlate}
use Rattle.tif_plate.specs.declared.sides.Sides.{Sides}
use Rattle.site_agent.specs.Tells.{begun_at, with_begin, with_taken, with_closed, with_finish, finished_at}
use Rattle.site_agent.specs.Stands.{path_and_length, IsAsLong}

pub on_ok : {T E : Type 0} (r : Result T E) (P : Type 0) → P → OnOk r P
on_ok (Ok x) P p = p
on_ok (Err e) P p = tt

pub no_ok : {T E : Type 0} (r : Result T E) (e : E) (P : Type 0) → r ≡ Err e → OnOk r P
no_ok (Ok x) e P is = absurd (cc)
no_ok (Err f) e P is = tt

-- the fact of a result that is Ok
pub of_ok : {T E : Type 0} (r : Result T E) (x : T) (P : Type 0) → r ≡ Ok x → OnOk r P → P
of_ok (Ok y) x P is p = p
of_ok (Err f) x P is p = absurd (cc)

-- a plate with this tail is finished if this was its last row
pub finishes-at : (sides : Sides) (y place : ℕ) (plate : SitePlate) (counts tail : List ℕ) (old new : Tells)
    → y + 1 ≡ sides.height
    → tail ≡ tail_bytes sides.width sides.height sides.dpi counts → place ≡ tail_offset counts
    → new ≡ with_closed plate.slot tail place old → new ≡ finished_at sides y plate counts old
finishes-at sides y place plate counts tail old new last is there closed =
    closed
    ∙ ap (λ t. with_closed plate.slot t place old) is
    ∙ ap (λ p. with_closed plate.slot (tail_bytes sides.width sides.height sides.dpi counts) p old) there
    ∙ sym (cond-true (y + 1 == sides.height) (with_finish sides plate.slot counts old) old (eq-eqb (y + 1) sides.height last))

pub stays-open : (sides : Sides) (y : ℕ) (plate : SitePlate) (counts : List ℕ) (old : Tells)
    → y + 1 < sides.height → old ≡ finished_at sides y plate counts old
stays-open sides y plate counts old more =
    sym (cond-false (y + 1 == sides.height) (with_finish sides plate.slot counts old) old (ne_eqb (y + 1) sides.height (omega arith)))

-- ---- the content of a plate's slot

-- the plate is begun, and as long as its front
front-stands : (plate : SitePlate) (slots : Slots) → plate.slot < length slots
    → IsAsLong plate 8 (slice_set slots plate.slot (Some (plate.path, front_bytes)))
front-stands plate slots within = ap (option_map path_and_length) (get_or-set_same slots plate.slot (Some (plate.path, front_bytes)) None within)

pub stands-begun : (y len : ℕ) (plate : SitePlate) (old now : Tells) → now ≡ begun_at y plate old
    → slice_get old.begun plate.slot ≡ Some (nat_lt 0 y)
    → IfSome old.working (λ slots. old.begun ≡ map is_some slots)
    → (0 < y → IfSome old.working (IsAsLong plate len)) → (y ≡ 0 → len ≡ 8)
    → IfSome now.working (IsAsLong plate len)
stands-begun y len plate old now is begun told stands first =
    ⊎_elim
    (λ (none : y ≡ 0).
    let P : Tells → Type 0 = λ t. IfSome t.working (IsAsLong plate len) in
    subst P (sym (is ∙ cond-true (y == 0) (with_begin plate old) old (eq-eqb y 0 none))) (fresh old.working none told))
    (λ (some : y ≢ 0).
    let P : Tells → Type 0 = λ t. IfSome t.working (IsAsLong plate len) in
    subst P (sym (is ∙ cond-false (y == 0) (with_begin plate old) old (ne_eqb y 0 some))) (stands (omega arith)))
    (cases_eq y 0) where
      fresh : (working : Option Slots) → y ≡ 0 → IfSome working (λ slots. old.begun ≡ map is_some slots)
          → IfSome (with_plate plate.slot (Some (plate.path, front_bytes)) working) (IsAsLong plate len)
      fresh None none told' = tt
      fresh (Some slots) none told' =
          let Q : ℕ → Type 0 = λ l. IsAsLong plate l (slice_set slots plate.slot (Some (plate.path, front_bytes))) in
          subst Q (sym (first none))
          (front-stands plate slots (omega (arith, slice_get_within old.begun plate.slot (nat_lt 0 y) begun, ap length told', length-map slots (is_some {T = Plate}))))

-- a row makes it longer by the row's packed bytes
more-stands : (plate : SitePlate) (len : ℕ) (more : List ℕ) (slots : Slots) (held : Option Plate)
    → slice_index_or slots plate.slot None ≡ held → option_map path_and_length held ≡ Some (plate.path, len)
    → IsAsLong plate (len + length more) (slice_set slots plate.slot
    (option_map (λ p. (p.0, p.1 ++ more)) held))
more-stands plate len more slots None is stands = absurd (cc)
more-stands plate len more slots (Some held) is stands =
    ap (option_map path_and_length) (get_or-set_same slots plate.slot (Some (held.0, held.1 ++ more)) None inside)
    ∙ ap (λ n. Some (held.0, n)) (length-append held.1 more)
    ∙ ap (λ pair. Some (pair.0, pair.1 + length more)) same where
      inside : plate.slot < length slots
      inside = ⊎_elim (λ (less : plate.slot < length slots). less) (λ (past : length slots ≤ plate.slot). absurd (let none : slice_index_or slots plate.slot None ≡ None = get_or_past slots plate.slot None past in cc)) (cases_lt plate.slot (length slots))

      same : path_and_length held ≡ (plate.path, len)
      same = cc

pub stands-taken : (plate : SitePlate) (len number : ℕ) (frame : List ℕ) (source : Source) (old now : Tells)
    → now ≡ with_taken plate.slot number frame source old
    → IfSome old.working (IsAsLong plate len)
    → IfSome now.working (IsAsLong plate (len + length (packed_in frame)))
stands-taken plate len number frame source old now is stands =
    let P : Tells → Type 0 = λ t. IfSome t.working (IsAsLong plate (len + length (packed_in frame))) in
    subst P (sym is) (longer old.working stands) where
      longer : (working : Option Slots) → IfSome working (IsAsLong plate len)
          → IfSome (with_more plate.slot (packed_in frame) working)
          (IsAsLong plate (len + length (packed_in frame)))
      longer None stands' = tt
      longer (Some slots) stands' = more-stands plate len (packed_in frame) slots (slice_index_or slots plate.slot None) refl stands'
