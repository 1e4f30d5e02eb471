-- The obligations of the commands that run an edition.
use Rattle.std.proofs.Common.{◌≡◌, ◌⊎◌, ℕ, ◌<◌, ◌≤◌, List, length, [], ◌∷◌, Some, suc, false, refl, inl, inr, arith}
use Rattle.std.specs.Prelude.{slice_get}
use Rattle.std.specs.List.{list_all}
use Rattle.std.proofs.lemmas.Option.{slice_get_within}
use Rattle.pr_rack.specs.declared.rack.Rack.{Ghosts}
use Rattle.press_job.specs.Job.{JobData}
use Rattle.site_agent.specs.declared.kept.LeftCause.{LeftCause}
use Rattle.ring_run.specs.Fits.{FitsCause}
use Rattle.ring_run.specs.declared.site_end.SiteEnd.{SiteEnd}
use Rattle.ring_run.specs.declared.site_end.SiteEnd.TheVariants.{Finished, Left}
use Rattle.cmd_base.specs.declared.refusal.Whose.TheVariants.{New}
use Rattle.cmd_run.specs.Edition.{Edition, Delivers, Further, delivery_of, makes_with, run_rules}
use Rattle.cmd_run.specs.Drill.{PrintsDrill, drill_rules}
use Rattle.cmd_run.specs.Report.{is_finished, status_of_ends}
use Rattle.cmd_base.specs.Seen.{RackFailed}
use Rattle.cmd_base.specs.Task.{telling}
use Rattle.cmd_base.proofs.Jobs.{job_known, job_met, prepared_is}
use Rattle.cmd_base.proofs.Owed.{not_all, rack_failed, zero_or_one, zero_one, Owes}

-- ---- `drill`

pub drill_owes : {R : Type 0} (g : Ghosts R) (number ring : ℕ) → Owes g drill_rules (telling (PrintsDrill number ring))
drill_owes g number ring = record {
  met = λ files shelf refusal held met. absurd met;
  known = λ shelf refusal met is. met;
  prints = λ files shelf racks racks' text status held made. refl;
  begins = λ files shelf racks racks' held begun. refl;
  done = λ shelf racks racks' text status made. inl made.0.zero;
  one = λ shelf racks racks' text status made is. absurd (zero_or_one status made.0.zero is);
  ends = λ files shelf racks racks' text status held made. inl made.0.zero;
}

-- ---- `run`

-- if not all sites finished, a site dropped out
some_left : (ends : List SiteEnd) → list_all is_finished ends ≡ false
    → (site : ℕ) × (cause : LeftCause) × (slice_get ends site ≡ Some (Left cause))
some_left [] h = cc
some_left (Finished plates rows ∷ ends) h =
    let rest = some_left ends h in (suc rest.0, rest.1, rest.2)
some_left (Left cause ∷ ends) h = (0, cause, refl)

-- the status of a run is 0 or 1
pub run_status : (ends : List SiteEnd) (status : ℕ) → status ≡ status_of_ends ends → (status ≡ 0) ⊎ (status ≡ 1)
unfolding status_of_ends
run_status ends = zero_one (list_all is_finished ends)

-- the status is 1 only if not all sites finished
not_all_finished : (ends : List SiteEnd) (status : ℕ) → status ≡ status_of_ends ends → status ≡ 1 → list_all is_finished ends ≡ false
unfolding status_of_ends
not_all_finished ends = not_all (list_all is_finished ends)

module _ {R : Type 0} (g : Ghosts R) where
  -- the rack of a site that dropped out counted a failure
  site_failed : (edition : Edition) (further : Further) (job : JobData) (racks racks' : List R) (ends : List SiteEnd) (site : ℕ) (cause : LeftCause)
      → Delivers g edition further job racks racks' ends → slice_get ends site ≡ Some (Left cause) → RackFailed g racks racks'
  site_failed edition further job racks racks' ends site cause delivers at =
      let within : site < length ends = slice_get_within ends site (Left cause) at in
      let count : length ends ≡ length job.plan.sites = delivers.fits.count in
      let enough : length job.plan.sites ≤ length racks = delivers.enough in
      rack_failed g racks racks' site (omega arith) delivers.kept (λ old new before after.
      let fits : FitsCause (delivery_of edition further job) site old new cause = delivers.fits.each site old new (Left cause) before after at in
      fits.counted)

  pub run_owes : (edition : Edition) (further : Further) → Owes g (run_rules edition) (makes_with g edition further)
  run_owes edition further = record {
    met = job_met New edition.plan edition.files;
    known = job_known New edition.plan edition.files;
    prints = λ files shelf racks racks' text status held made.
        prepared_is New edition.plan edition.files files shelf.held made.job held made.prepared;
    begins = λ files shelf racks racks' held begun.
        prepared_is New edition.plan edition.files files shelf.held begun.job held begun.prepared;
    done = λ shelf racks racks' text status made.
        elim (run_status made.reports.ends status made.reports.status_is) [ inl zero ↦ inl zero | inr one ↦ inr (inl one) ];
    one = λ shelf racks racks' text status made is.
        let r = made.reports in
        let left = some_left r.ends (not_all_finished r.ends status r.status_is is) in
        site_failed edition further made.job racks racks' r.ends left.0 left.1 r.delivers left.2;
    ends = λ files shelf racks racks' text status held made. run_status made.reports.ends status made.reports.status_is;
  }
