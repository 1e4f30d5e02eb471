-- The obligations of the command `one`.
use Rattle.std.proofs.Common.{◌≡◌, ◌⊎◌, ℕ, ◌<◌, ◌≤◌, List, length, Option, Some, None, IsSomeAnd, true, false, if◌then◌else◌, nat_lt, refl, sym, ap, subst, ◌∙◌, inl, inr, arith}
use Rattle.std.proofs.lemmas.Bool.Decides.{nat_tests}
use Rattle.pr_base.specs.declared.fault.TagFault.{TagFault}
use Rattle.pr_ports.specs.Shelf.{held_at}
use Rattle.pr_rack.specs.declared.rack.Rack.{Ghosts}
use Rattle.tif_image.specs.Image.{contone_shape}
use Rattle.cmd_base.specs.declared.refusal.Whose.TheVariants.{New}
use Rattle.cmd_base.specs.declared.refusal.Refusal.{Refusal}
use Rattle.cmd_base.specs.declared.refusal.Refusal.TheVariants.{Words, LongPlan, Plan, File, Shelf}
use Rattle.cmd_base.specs.Job.{IsLoaded}
use Rattle.cmd_one.specs.OneFile.{HasFault, OneMeets, PrintsPlate, file_limit, judged, named, one_rules, too_long, verdict_on}
use Rattle.cmd_base.specs.Refusal.{status_of}
use Rattle.cmd_base.specs.Seen.{Files, ShelfSeen, LoadFailed}
use Rattle.cmd_base.specs.Task.{telling}
use Rattle.cmd_base.proofs.Owed.{zero_or_one, Owes}

-- the verdict on a file that is present and not too long is that on its image
short_is : (file bytes : List ℕ) → length bytes ≤ file_limit
    → verdict_on file (Some bytes) ≡ judged file (contone_shape bytes)
short_is file bytes within =
    let short : nat_lt file_limit (length bytes) ≡ false = grind (arith, nat_tests) in
    ap (λ long. if long then Some (File New (named file too_long)) else judged file (contone_shape bytes)) short

-- the verdict on a file that is present and longer is that it is too long
longer_is : (file : List ℕ) (found : Option (List ℕ)) → IsSomeAnd found (λ bytes. file_limit < length bytes)
    → verdict_on file found ≡ Some (File New (named file too_long))
longer_is file None h = absurd h
longer_is file (Some bytes) beyond =
    let long : nat_lt file_limit (length bytes) ≡ true = grind (arith, nat_tests) in
    ap (λ long. if long then Some (File New (named file too_long)) else judged file (contone_shape bytes)) long

-- the verdict on a file that was loaded is that on its image
loaded_is : (files : Files) (file bytes : List ℕ) → IsLoaded (Some files) file_limit file bytes
    → verdict_on file (held_at files file) ≡ judged file (contone_shape bytes)
loaded_is files file bytes h = ap (verdict_on file) h.bytes_held ∙ short_is file bytes h.within

-- a file that is refused with a fault has that fault
fault_is : (files : Files) (shelf : ShelfSeen) (file : List ℕ) (tags : TagFault) → shelf.held ≡ Some files
    → HasFault shelf file tags → verdict_on file (held_at files file) ≡ Some (File New (named file tags))
fault_is files shelf file tags told (inl (is, longer, rose)) =
    longer_is file (held_at files file) (rw (told) at longer) ∙ ap (λ t. Some (File New (named file t))) (sym is)
fault_is files shelf file tags told (inr (bytes, loaded, fault)) =
    let L : Option Files → Type 0 = λ held. IsLoaded held file_limit file bytes in
    loaded_is files file bytes (subst L told loaded) ∙ ap (judged file) fault

one_met : (file : List ℕ) (files : Files) (shelf : ShelfSeen) (refusal : Refusal) → shelf.held ≡ Some files
    → OneMeets file shelf refusal
    → (verdict_on file (held_at files file) ≡ Some refusal) ⊎ ((status_of refusal ≡ 5) × LoadFailed shelf)
one_met file files shelf Words told h = absurd h
one_met file files shelf (LongPlan whose) told h = absurd h
one_met file files shelf (Plan whose fault) told h = absurd h
one_met file files shelf (File whose fault) told (new, (tags, is, cause)) =
    inl (fault_is files shelf file tags told cause
    ∙ ap (λ f. Some (File New f)) (sym is) ∙ ap (λ w. Some (File w fault)) (sym new))
one_met file files shelf (Shelf path) told (is, missed) = inr (refl, missed.counted)

one_known : (file : List ℕ) (shelf : ShelfSeen) (refusal : Refusal) → OneMeets file shelf refusal
    → status_of refusal ≡ 2 → ⊥
one_known file shelf Words met is = met
one_known file shelf (LongPlan whose) met is = met
one_known file shelf (Plan whose fault) met is = met
one_known file shelf (File whose fault) met is = absurd (omega arith)
one_known file shelf (Shelf path) met is = absurd (omega arith)

one_passes : (file : List ℕ) (files : Files) (shelf : ShelfSeen) (text : List ℕ) (status : ℕ) → shelf.held ≡ Some files
    → PrintsPlate file shelf text status → verdict_on file (held_at files file) ≡ None
one_passes file files shelf text status told made =
    let L : Option Files → Type 0 = λ h. IsLoaded h file_limit file made.bytes in
    loaded_is files file made.bytes (subst L told made.image.loaded) ∙ ap (judged file) made.image.passed

pub one_owes : {R : Type 0} (g : Ghosts R) (file : List ℕ) → Owes g (one_rules file) (telling (PrintsPlate file))
one_owes g file = record {
  met = one_met file;
  known = one_known file;
  prints = λ files shelf racks racks' text status held made. one_passes file files shelf text status held made.0;
  begins = λ files shelf racks racks' held begun. absurd begun;
  done = λ shelf racks racks' text status made. inl made.0.zero;
  one = λ shelf racks racks' text status made is. absurd (zero_or_one status made.0.zero is);
  ends = λ files shelf racks racks' text status held made. inl made.0.zero;
}
