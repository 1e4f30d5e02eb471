-- Obligations of the command `verify`.
use Rattle.std.proofs.Common.{◌≡◌, ◌⊎◌, ℕ, List, Option, Some, refl, sym, ap, subst, ◌∙◌, inl, inr, arith}
use Rattle.pr_rack.specs.declared.rack.Rack.{Ghosts}
use Rattle.plate_verify.specs.declared.checked.Checked.{Checked}
use Rattle.plate_verify.specs.declared.checked.Checked.TheVariants.{Same, Differs, Long}
use Rattle.plate_verify.specs.Verifying as verifying
use Rattle.cmd_base.specs.declared.refusal.Whose.TheVariants.{New}
use Rattle.cmd_base.specs.declared.refusal.Refusal.{Refusal}
use Rattle.cmd_verify.specs.Check.{CheckMeets, EndsFound, PrintsFound, check_rules, found_status, wrong_of, Asked}
use Rattle.cmd_base.specs.Job.{IsPrepared}
use Rattle.cmd_base.specs.Refusal.{status_of}
use Rattle.cmd_base.specs.Seen.{Files, ShelfSeen, LoadFailed}
use Rattle.cmd_base.specs.Task.{telling}
use Rattle.cmd_base.proofs.Jobs.{job_known, job_met, of_told, prepared_is}
use Rattle.cmd_base.proofs.Owed.{Owes}

check_met : (asked : Asked) (files : Files) (shelf : ShelfSeen) (refusal : Refusal) → shelf.held ≡ Some files
    → CheckMeets asked shelf refusal
    → ((check_rules asked).verdict files ≡ Some refusal) ⊎ ((status_of refusal ≡ 5) × LoadFailed shelf)
check_met asked files shelf refusal told (inl met) = job_met New asked.plan asked.files files shelf refusal told met
check_met asked files shelf refusal told (inr loses) = inr (ap status_of loses.is, loses.lost.missed.counted)

check_known : (asked : Asked) (shelf : ShelfSeen) (refusal : Refusal) → CheckMeets asked shelf refusal
    → status_of refusal ≡ 2 → ⊥
check_known asked shelf refusal (inl met) is = job_known New asked.plan asked.files shelf refusal met is
check_known asked shelf refusal (inr loses) is =
    let five : status_of refusal ≡ 5 = ap status_of loses.is in absurd (omega arith)

-- the status of a result is 0 or 8
found_done : (checked : Checked) → (found_status (verifying.told checked) ≡ 0) ⊎ (found_status (verifying.told checked) ≡ 8)
found_done (Same plates) = inl refl
found_done (Differs path at row) = inr refl
found_done (Long path) = inr refl

pub check_status : (asked : Asked) (shelf : ShelfSeen) (text : List ℕ) (status : ℕ) → PrintsFound asked shelf text status
    → (status ≡ 0) ⊎ (status ≡ 8)
check_status asked shelf text status made = elim (found_done made.checked) [
  | inl zero ↦ inl (made.status_is ∙ zero)
  | inr eight ↦ inr (made.status_is ∙ eight)
]

check_ends : (asked : Asked) (files : Files) (shelf : ShelfSeen) (text : List ℕ) (status : ℕ) → shelf.held ≡ Some files
    → PrintsFound asked shelf text status → EndsFound asked files status
check_ends asked files shelf text status held made = record {
  job = made.job;
  prepared = let P : Option Files → Type 0 = λ h. IsPrepared h asked.plan asked.files made.job in subst P held made.prepared;
  is = made.status_is ∙ ap found_status (sym (of_told shelf.held files
      (λ all. wrong_of made.job asked.out all ≡ verifying.told made.checked) held made.found.first));
}

pub check_owes : {R : Type 0} (g : Ghosts R) (asked : Asked) → Owes g (check_rules asked) (telling (PrintsFound asked))
check_owes g asked = record {
  met = check_met asked;
  known = check_known asked;
  prints = λ files shelf racks racks' text status held made.
      prepared_is New asked.plan asked.files files shelf.held made.0.job held made.0.prepared;
  begins = λ files shelf racks racks' held begun. absurd begun;
  done = λ shelf racks racks' text status made.
      elim (check_status asked shelf text status made.0) [ inl zero ↦ inl zero | inr eight ↦ inr (inr eight) ];
  one = λ shelf racks racks' text status made is. absurd (by status (check_status asked shelf text status made.0) is);
  ends = λ files shelf racks racks' text status held made. inl (check_ends asked files shelf text status held made.0);
} where
  by : (status : ℕ) → (status ≡ 0) ⊎ (status ≡ 8) → status ≡ 1 → ⊥
  by status done one = grind arith
