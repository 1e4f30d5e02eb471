-- Obligations of the command `replate`.
use Rattle.std.proofs.Common.{◌≡◌, ◌⊎◌, ℕ, ◌<◌, ◌≤◌, List, length, [], ◌∷◌, Option, Some, None, suc, false, refl, ap, ◌∙◌, inl, inr, arith}
use Rattle.std.specs.Prelude.{slice_get}
use Rattle.std.specs.List.{list_all}
use Rattle.std.specs.Option.{option_or}
use Rattle.std.proofs.lemmas.Option.{slice_get_within}
use Rattle.pr_rack.specs.declared.rack.Rack.{Ghosts}
use Rattle.press_job.specs.Job.{JobData}
use Rattle.replate.specs.declared.remade.RemadeEnd.{RemadeEnd}
use Rattle.replate.specs.declared.remade.RemadeEnd.TheVariants as remade
use Rattle.replate.specs.Picks.{PicksData}
use Rattle.replate.specs.Remade.{FitsLeft}
use Rattle.cmd_base.specs.declared.refusal.Whose.TheVariants.{New, Old}
use Rattle.cmd_base.specs.declared.refusal.Refusal.{Refusal}
use Rattle.cmd_replate.specs.Change.{AreCompared, ChangeMeets, DeliversPicked, change_makes, change_rules, making_of, verdict_on_change, Change}
use Rattle.cmd_base.specs.Job.{verdict_on_job}
use Rattle.cmd_base.specs.Refusal.{status_of}
use Rattle.cmd_replate.specs.Remade.{is_done, status_of_remade}
use Rattle.cmd_base.specs.Seen.{Files, ShelfSeen, LoadFailed, RackFailed}
use Rattle.cmd_base.proofs.Jobs.{job_known, job_met, prepared_is}
use Rattle.cmd_base.proofs.Owed.{not_all, rack_failed, zero_one, Owes}

-- a refusal of the old job is the verdict; where there is none, a refusal of the new job is
change_met : (change : Change) (files : Files) (shelf : ShelfSeen) (refusal : Refusal) → shelf.held ≡ Some files
    → ChangeMeets change shelf refusal
    → (verdict_on_change change files ≡ Some refusal) ⊎ ((status_of refusal ≡ 5) × LoadFailed shelf)
change_met change files shelf refusal told (inl met) =
    elim (job_met Old change.old_plan change.old_files files shelf refusal told met) [
      | inl is ↦ inl (ap (λ (v : Option Refusal). option_or v (verdict_on_job New change.plan change.files files)) is)
      | inr lost ↦ inr lost
    ]
change_met change files shelf refusal told (inr ((before, prepared), met)) =
    elim (job_met New change.plan change.files files shelf refusal told met) [
      | inl is ↦
          inl (ap (λ (v : Option Refusal). option_or v (verdict_on_job New change.plan change.files files))
          (prepared_is Old change.old_plan change.old_files files shelf.held before told prepared) ∙ is)
      | inr lost ↦ inr lost
    ]

change_known : (change : Change) (shelf : ShelfSeen) (refusal : Refusal) → ChangeMeets change shelf refusal
    → status_of refusal ≡ 2 → ⊥
change_known change shelf refusal (inl met) is = job_known Old change.old_plan change.old_files shelf refusal met is
change_known change shelf refusal (inr met) is = job_known New change.plan change.files shelf refusal met.1 is

change_passes : (change : Change) (files : Files) (shelf : ShelfSeen) (before job : JobData) (picks : PicksData)
    → shelf.held ≡ Some files → AreCompared change shelf.held before job picks → verdict_on_change change files ≡ None
change_passes change files shelf before job picks told are =
    ap (λ (v : Option Refusal). option_or v (verdict_on_job New change.plan change.files files))
    (prepared_is Old change.old_plan change.old_files files shelf.held before told are.old_prepared)
    ∙ prepared_is New change.plan change.files files shelf.held job told are.prepared

-- where not all sites are done, one dropped out
some_left_picked : (ends : List RemadeEnd) → list_all is_done ends ≡ false
    → (site : ℕ) × (made : ℕ) × (path : List ℕ) × (slice_get ends site ≡ Some (remade.Left made path))
some_left_picked [] h = cc
some_left_picked (remade.Done made kept ∷ ends) h =
    let rest = some_left_picked ends h in (suc rest.0, rest.1, rest.2, rest.3)
some_left_picked (remade.Left made path ∷ ends) h = (0, made, path, refl)

pub remade_status : (ends : List RemadeEnd) (status : ℕ) → status ≡ status_of_remade ends → (status ≡ 0) ⊎ (status ≡ 1)
unfolding status_of_remade
remade_status ends = zero_one (list_all is_done ends)

not_all_done : (ends : List RemadeEnd) (status : ℕ) → status ≡ status_of_remade ends → status ≡ 1 → list_all is_done ends ≡ false
unfolding status_of_remade
not_all_done ends = not_all (list_all is_done ends)

module _ {R : Type 0} (g : Ghosts R) where
  -- the rack of a site that dropped out counted a failure
  picked_failed : (change : Change) (job : JobData) (picks : PicksData) (racks racks' : List R) (ends : List RemadeEnd) (site made : ℕ) (path : List ℕ)
      → DeliversPicked g change job picks racks racks' ends → slice_get ends site ≡ Some (remade.Left made path) → RackFailed g racks racks'
  picked_failed change job picks racks racks' ends site made path delivers at =
      let within : site < length ends = slice_get_within ends site (remade.Left made path) at in
      let count : length ends ≡ length job.plan.sites = delivers.fits.count in
      let enough : length job.plan.sites ≤ length racks = delivers.enough in
      rack_failed g racks racks' site (omega arith) delivers.kept (λ old new before after.
      let fits : FitsLeft (making_of change job picks) site old new made path = delivers.fits.each site old new (remade.Left made path) before after at in
      fits.counted)

  pub change_owes : (change : Change) → Owes g (change_rules change) (change_makes g change)
  change_owes change = record {
    met = change_met change;
    known = change_known change;
    prints = λ files shelf racks racks' text status held made.
        change_passes change files shelf made.before made.job made.picks held made.compared_are;
    begins = λ files shelf racks racks' held begun.
        change_passes change files shelf begun.before begun.job begun.picks held begun.compared_are;
    done = λ shelf racks racks' text status made.
        elim (remade_status made.ends status made.status_is) [ inl zero ↦ inl zero | inr one ↦ inr (inl one) ];
    one = λ shelf racks racks' text status made is.
        let left = some_left_picked made.ends (not_all_done made.ends status made.status_is is) in
        picked_failed change made.job made.picks racks racks' made.ends left.0 left.1 left.2 made.delivers left.3;
    ends = λ files shelf racks racks' text status held made. remade_status made.ends status made.status_is;
  }
