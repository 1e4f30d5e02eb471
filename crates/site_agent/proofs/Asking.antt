-- What a site requires of its rack for a row holds again for the next row.
use Rattle.std.proofs.Common.{◌≡◌, ◌≢◌, ℕ, ◌+◌, ◌/◌, ◌<◌, ◌≤◌, if◌then◌else◌, Bool, true, false, List, [], length, map, set, sum, Option, Some, None, nat_lt, refl, sym, ap, subst, ◌∙◌, ⊎_elim, arith}
use Rattle.std.specs.Prelude.{◌==◌, is_some, slice_get, slice_index_or, IfSome}
use Rattle.std.specs.Option.{option_map}
use Rattle.std.proofs.lemmas.Bool.{cases_eq, cases_lt, cond-true, cond-false, eq-eqb, ne_eqb, lt-ltb, le-ltb}
use Rattle.std.proofs.lemmas.List.{get_or-set_same, get_or-set_other, get_or_past, length-set}
use Rattle.ring_lanes.specs.declared.source.Source.{Source}
use Rattle.pr_rack.specs.Rack.{Plate, Slots, plate_in, with_bytes, with_plate}
use Rattle.tif_packbits.specs.Frame.{packed_in}
use Rattle.tif_plate.specs.Plate.{rows_each, strip_count}
use Rattle.tif_plate.specs.Tail.{front_bytes}
use Rattle.tif_plate.proofs.Growth.{strip-in_plate}
use Rattle.pr_rack.specs.Told.{Tells}
use Rattle.site_agent.specs.declared.plate.SitePlate.{SitePlate}
use Rattle.tif_plate.specs.declared.sides.Sides.{Sides}
use Rattle.plate_bytes.specs.Strips.{counted}
use Rattle.plate_bytes.proofs.Counts.{sum-counted}
use Rattle.site_agent.specs.Job.{SiteJob, sides_of, IsJob}
use Rattle.site_agent.specs.Given.{open_in, IsRowOf, IsNoRow}
use Rattle.site_agent.specs.Stands.{AreAsLong, AreBegun, IsAsLong, path_and_length}
use Rattle.site_agent.specs.Tells.{after_row, begun_at, with_begin, with_finish, with_taken}
use Rattle.site_agent.proofs.Answering.{stands-begun, stands-taken}
use Rattle.site_agent.proofs.Holding.{get-set_same, get-set_other}
use Rattle.site_agent.proofs.Opens.{plate_at}
use Rattle.site_agent.proofs.Steps.{fresh-before, last-after, open-after, open-before, open-none, open-other}

-- ---- one slot

-- the path and the length of the plate in a slot
abbrev Length : Type 0
Length = Option (List ℕ × ℕ)

abbrev length_at : Slots → ℕ → Length
length_at slots s = option_map path_and_length (slice_index_or slots s None)

-- whether a slot is begun, and the length of its plate where known
record Shows (s : ℕ) (is : Bool) (long : Length) (t : Tells) : Type 0 where
  begun : slice_get t.begun s ≡ Some is
  working : IfSome t.working (λ slots. length_at slots s ≡ long)

either : {X : Type 0} (P : X → Type 0) (test : Bool) (a b : X) → P a → P b → P (if test then a else b)
either P true a b first second = first
either P false a b first second = second

keeps-plate : (working : Option Slots) (slot s : ℕ) (plate : Option Plate) (long : Length) → s ≢ slot
    → IfSome working (λ slots. length_at slots s ≡ long)
    → IfSome (with_plate slot plate working) (λ slots. length_at slots s ≡ long)
keeps-plate None slot s plate long apart is = tt
keeps-plate (Some slots) slot s plate long apart is = ap (option_map path_and_length) (get_or-set_other slots slot s plate None apart) ∙ is

empties : (working : Option Slots) (slot : ℕ)
    → IfSome (with_plate slot None working) (λ slots. length_at slots slot ≡ None)
empties None slot = tt
empties (Some slots) slot =
    ap (option_map path_and_length)
    (⊎_elim
    (λ (less : slot < length slots). get_or-set_same slots slot None None less)
    (λ (past : length slots ≤ slot). get_or_past (set slots slot None) slot None (let none : Option Plate = None in omega (arith, length-set slots slot none)))
    (cases_lt slot (length slots)))

-- ---- a row of a plate, at another slot

other-shows : (sides : Sides) (plate : SitePlate) (y n : ℕ) (frame : List ℕ) (source : Source)
    (counts : List ℕ) (old : Tells) (s : ℕ) (is : Bool) (long : Length) → s ≢ plate.slot
    → Shows s is long old → Shows s is long (after_row sides plate y n frame source counts old)
other-shows sides plate y n frame source counts old s is long apart shows =
    either (Shows s is long) (y + 1 == sides.height) (with_finish sides plate.slot counts taken) taken
    (record {
      begun = get-set_other taken.begun plate.slot s false is apart in-taken.begun;
      working = keeps-plate taken.working plate.slot s None long apart in-taken.working;
    })
    in-taken where
      begun : Tells
      begun = begun_at y plate old

      taken : Tells
      taken = with_taken plate.slot n frame source begun

      in-begun : Shows s is long begun
      in-begun =
          either (Shows s is long) (y == 0) (with_begin plate old) old
          (record {
            begun = get-set_other old.begun plate.slot s true is apart shows.begun;
            working = keeps-plate old.working plate.slot s (Some (plate.path, front_bytes)) long apart shows.working;
          })
          shows

      in-taken : Shows s is long taken
      in-taken = record {
        begun = in-begun.begun;
        working = keeps-plate begun.working plate.slot s (option_map (with_bytes (packed_in frame)) (plate_in begun.working plate.slot)) long apart in-begun.working;
      }

-- ---- at its own slot

begun-own : (plate : SitePlate) (y : ℕ) (old : Tells) → slice_get old.begun plate.slot ≡ Some (nat_lt 0 y)
    → slice_get (begun_at y plate old).begun plate.slot ≡ Some true
begun-own plate y old was =
    let P : Tells → Type 0 = λ t. slice_get t.begun plate.slot ≡ Some true in
    ⊎_elim
    (λ (none : y ≡ 0). subst P (sym (cond-true (y == 0) (with_begin plate old) old (eq-eqb y 0 none))) (get-set_same old.begun plate.slot true (nat_lt 0 y) was))
    (λ (some : y ≢ 0). subst P (sym (cond-false (y == 0) (with_begin plate old) old (ne_eqb y 0 some))) (was ∙ ap Some (lt-ltb 0 y (omega arith))))
    (cases_eq y 0)

own-open : (sides : Sides) (plate : SitePlate) (y n len : ℕ) (frame : List ℕ) (source : Source)
    (counts : List ℕ) (old : Tells) → y + 1 < sides.height
    → slice_get old.begun plate.slot ≡ Some (nat_lt 0 y)
    → IfSome old.working (λ slots. old.begun ≡ map is_some slots)
    → (0 < y → IfSome old.working (IsAsLong plate len)) → (y ≡ 0 → len ≡ 8)
    → Shows plate.slot true (Some (plate.path, len + length (packed_in frame)))
    (after_row sides plate y n frame source counts old)
own-open sides plate y n len frame source counts old more was told stands first =
    let taken : Tells = with_taken plate.slot n frame source (begun_at y plate old) in
    subst (Shows plate.slot true (Some (plate.path, len + length (packed_in frame))))
    (sym (cond-false (y + 1 == sides.height) (with_finish sides plate.slot counts taken) taken (ne_eqb (y + 1) sides.height (omega arith))))
    (record {
      begun = begun-own plate y old was;
      working = stands-taken plate len n frame source (begun_at y plate old) taken refl (stands-begun y len plate old (begun_at y plate old) refl was told stands first);
    })

own-closed : (sides : Sides) (plate : SitePlate) (y n : ℕ) (frame : List ℕ) (source : Source)
    (counts : List ℕ) (old : Tells) → y + 1 ≡ sides.height
    → slice_get old.begun plate.slot ≡ Some (nat_lt 0 y)
    → Shows plate.slot false None (after_row sides plate y n frame source counts old)
own-closed sides plate y n frame source counts old last was =
    let taken : Tells = with_taken plate.slot n frame source (begun_at y plate old) in
    subst (Shows plate.slot false None)
    (sym (cond-true (y + 1 == sides.height) (with_finish sides plate.slot counts taken) taken (eq-eqb (y + 1) sides.height last)))
    (record {
      begun = get-set_same taken.begun plate.slot false true (begun-own plate y old was);
      working = empties taken.working plate.slot;
    })

-- ---- all slots

-- the path of the open plate in a slot, and its length by the counts
abbrev counted_at : SiteJob → ℕ → List (List ℕ) → ℕ → Length
counted_at job n counts s = option_map (λ plate. (plate.path, 8 + sum (slice_index_or counts s []))) (open_in job n s)

at-each : (job : SiteJob) (n : ℕ) (counts : List (List ℕ)) (working : Option Slots) (s : ℕ) → s < 5
    → IfSome working (AreAsLong job n counts)
    → IfSome working (λ slots. length_at slots s ≡ counted_at job n counts s)
at-each job n counts None s less are = tt
at-each job n counts (Some slots) s less are = are.each s less

each-at : (job : SiteJob) (n : ℕ) (counts : List (List ℕ)) (working : Option Slots)
    → ((s : ℕ) → s < 5 → IfSome working (λ slots. length_at slots s ≡ counted_at job n counts s))
    → IfSome working (AreAsLong job n counts)
each-at job n counts None at = tt
each-at job n counts (Some slots) at = record { each = at }

-- what a site requires of its rack, in terms of what contracts see of it
pub record Asks (job : SiteJob) (n : ℕ) (counts : List (List ℕ)) (t : Tells) : Type 0 where
  pub begun : AreBegun job n t.begun
  pub working : IfSome t.working (AreAsLong job n counts)

-- it holds after a row that the site did not keep
pub asks-passed : (job : SiteJob) (n : ℕ) (counts : List (List ℕ)) (t : Tells) → IsNoRow job n
    → Asks job n counts t → Asks job (n + 1) counts t
asks-passed job n counts t row asks = record {
  begun = record { each = λ s less. asks.begun.each s less ∙ ap (λ p. Some (is_some p)) (sym (open-none job n s row)) };
  working = each-at job (n + 1) counts t.working
      (λ s less. let P : Option SitePlate → Type 0 = λ p. IfSome t.working (λ slots. length_at slots s ≡ option_map (λ plate. (plate.path, 8 + sum (slice_index_or counts s []))) p) in
      subst P (sym (open-none job n s row)) (at-each job n counts t.working s less asks.working));
}

-- and after a row that it kept, whose plate is in this slot
pub asks-kept : (job : SiteJob) (source : Source) (n k y slot : ℕ) (old now : Tells)
    (counts after : List (List ℕ)) (d : SitePlate) (frame : List ℕ) → IsJob job → IsRowOf job n k y
    → (plate_at job k d).slot ≡ slot → Asks job n counts old
    → IfSome old.working (λ slots. old.begun ≡ map is_some slots)
    → length (slice_index_or counts slot []) ≡ strip_count job.width job.height
    → slice_index_or after slot []
    ≡ counted y (y / rows_each job.width) (length (packed_in frame)) (slice_index_or counts slot [])
    → ((s : ℕ) → s < 5 → s ≢ slot → slice_index_or after s [] ≡ slice_index_or counts s [])
    → now ≡ after_row (sides_of job) (plate_at job k d) y n frame source (slice_index_or after slot []) old
    → Asks job (n + 1) after now
asks-kept job source n k y slot old now counts after d frame is row there asks told size own others told_now = record {
  begun = record { each = λ s less. (shows s less).begun };
  working = each-at job (n + 1) after now.working (λ s less. (shows s less).working);
} where
  plate : SitePlate
  plate = plate_at job k d

  inside : plate.slot < 5
  inside = (is.each k d row.within).slot

  row-now : Tells
  row-now = after_row (sides_of job) plate y n frame source (slice_index_or after slot []) old

  was : slice_get old.begun plate.slot ≡ Some (nat_lt 0 y)
  was =
      asks.begun.each plate.slot inside
      ∙ ⊎_elim
      (λ (none : y ≡ 0).
      ap (λ p. Some (is_some p)) (fresh-before job n k y d is row none) ∙ ap Some (sym (le-ltb 0 y (omega arith))))
      (λ (some : y ≢ 0).
      ap (λ p. Some (is_some p)) (open-before job n k y d is row (omega arith)) ∙ ap Some (sym (lt-ltb 0 y (omega arith))))
      (cases_eq y 0)

  before : ℕ
  before = if y == 0 then 0 else sum (slice_index_or counts slot [])

  first : y ≡ 0 → 8 + before ≡ 8
  first none = ap (λ m. 8 + m) (cond-true (y == 0) 0 (sum (slice_index_or counts slot [])) (eq-eqb y 0 none))

  stands : 0 < y → IfSome old.working (IsAsLong plate (8 + before))
  stands some =
      let P : Option SitePlate → Type 0 = λ p. IfSome old.working (λ slots. length_at slots plate.slot ≡ option_map (λ q. (q.path, 8 + sum (slice_index_or counts plate.slot []))) p) in
      let Q : ℕ → Type 0 = λ m. IfSome old.working (IsAsLong plate (8 + m)) in
      subst Q
      (ap (λ s. sum (slice_index_or counts s [])) there ∙ sym (cond-false (y == 0) 0 (sum (slice_index_or counts slot [])) (ne_eqb y 0 (omega arith))))
      (subst P (open-before job n k y d is row some) (at-each job n counts old.working plate.slot inside asks.working))

  more : 8 + before + length (packed_in frame) ≡ 8 + sum (slice_index_or after slot [])
  more =
      let strip : y / rows_each job.width < strip_count job.width job.height = strip-in_plate job.width job.height y row.below in
      let all = sum-counted y (y / rows_each job.width) (length (packed_in frame)) (slice_index_or counts slot []) (omega (arith, size)) in
      let same : sum (slice_index_or after slot []) ≡ sum (counted y (y / rows_each job.width) (length (packed_in frame)) (slice_index_or counts slot [])) = ap sum own in
      omega (arith, all, same)

  Shown : ℕ → Option SitePlate → Tells → Type 0
  Shown s p t = Shows s (is_some p) (option_map (λ q. (q.path, 8 + sum (slice_index_or after s []))) p) t

  own-shows : Shown plate.slot (open_in job (n + 1) plate.slot) row-now
  own-shows =
      let below : y < job.height = row.below in
      ⊎_elim
      (λ (open' : y + 1 < job.height).
      subst (λ (p : Option SitePlate). Shown plate.slot p row-now) (sym (open-after job n k y d is row open'))
      (subst (λ (m : ℕ). Shows plate.slot true (Some (plate.path, m)) row-now)
      (more ∙ ap (λ s. 8 + sum (slice_index_or after s [])) (sym there))
      (own-open (sides_of job) plate y n (8 + before) frame source (slice_index_or after slot []) old open' was told stands first)))
      (λ (most : job.height ≤ y + 1).
      let last : y + 1 ≡ job.height = omega arith in
      subst (λ (p : Option SitePlate). Shown plate.slot p row-now) (sym (last-after job n k y d is row last))
      (own-closed (sides_of job) plate y n frame source (slice_index_or after slot []) old last was))
      (cases_lt (y + 1) job.height)

  other : (s : ℕ) → s < 5 → s ≢ plate.slot → Shown s (open_in job (n + 1) s) row-now
  other s less apart =
      subst (λ (p : Option SitePlate). Shown s p row-now) (sym (open-other job n k y s d is row apart))
      (subst (λ (list : List ℕ). Shows s (is_some (open_in job n s)) (option_map (λ q. (q.path, 8 + sum list)) (open_in job n s)) row-now)
      (sym (others s less (λ same. apart (same ∙ sym there))))
      (other-shows (sides_of job) plate y n frame source (slice_index_or after slot []) old s (is_some (open_in job n s)) (counted_at job n counts s) apart
      (record { begun = asks.begun.each s less; working = at-each job n counts old.working s less asks.working })))

  shows : (s : ℕ) → s < 5 → Shown s (open_in job (n + 1) s) now
  shows s less =
      subst (Shown s (open_in job (n + 1) s)) (sym told_now)
      (⊎_elim
      (λ (same : s ≡ plate.slot). subst (λ (i : ℕ). Shown i (open_in job (n + 1) i) row-now) (sym same) own-shows)
      (λ (apart : s ≢ plate.slot). other s less apart)
      (cases_eq s plate.slot))
