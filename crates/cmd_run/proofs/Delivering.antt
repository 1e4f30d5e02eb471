-- The result of running a job, derived from the contracts of its steps.
use Rattle.std.proofs.Common.{◌≡◌, ◌≤◌, ◌++◌, ℕ, List, length, drop, Result, Ok, Err, ap, subst, sym, inl, inr, arith}
use Rattle.pr_rack.specs.declared.rack.Rack.{Ghosts}
use Rattle.pr_rack.specs.Told.{RackTells, all_told}
use Rattle.plan_json.specs.Data.{PlanData}
use Rattle.plan_json.specs.Plan.{IsPlan}
use Rattle.press_job.specs.Job.{JobData}
use Rattle.press_job.specs.Rows.{plate_rows}
use Rattle.site_agent.specs.Racks.{AreIdle}
use Rattle.ring_run.specs.Fits.{RunFits, RunPart, by_ring}
use Rattle.ring_run.specs.declared.site_end.SiteEnd.{SiteEnd}
use Rattle.cmd_base.specs.declared.refusal.Stop.{Stop}
use Rattle.cmd_base.specs.declared.refusal.Stop.TheVariants as stop
use Rattle.cmd_run.specs.Edition.{Edition, Delivered, Further, Reports, delivery_of, makes_with, none_further, run_rules}
use Rattle.cmd_base.specs.Job.{IsPrepared}
use Rattle.cmd_run.specs.Report.{report_of, status_of_ends}
use Rattle.cmd_base.specs.Seen.{AreReady, ShelfSeen, SinkSeen}
use Rattle.cmd_base.specs.Task.{Answers, Puts}
use Rattle.cmd_base.proofs.Idle.{idle_at}

-- each site of a job has a rack
enough_sites : {R : Type 0} {g : Ghosts R} (own : PlanData) (job : JobData) (racks : List R) → AreReady g racks → own ≡ job.plan → IsPlan own
    → length job.plan.sites ≤ length racks
enough_sites own job racks ready same is =
    let few = is.site_count.most in
    let enough = ready.enough in
    omega (arith, enough, few, ap (λ (plan : PlanData). length plan.sites) same)

-- no rack has a begun slot, whichever the number of sites
pub idle_for : {R : Type 0} (g : Ghosts R) (racks : List R) (sites : ℕ) → AreReady g racks → AreIdle sites (all_told g racks)
idle_for g racks sites ready = record {
  each = λ site tells below at. idle_at g racks site tells ready.idle at;
}

-- no reader besides those of the sites
pub fits_alone : (edition : Edition) (job : JobData) (before now : List RackTells) (ends : List SiteEnd)
    → RunFits (by_ring job.plan (plate_rows job.plan job.files) edition.out (length job.plan.sites) edition.ring) before now ends
    → RunFits (delivery_of edition none_further job) before now ends
fits_alone edition job before now ends fits =
    subst (λ (n : ℕ). RunFits (by_ring job.plan (plate_rows job.plan job.files) edition.out n edition.ring) before now ends) (omega arith) fits

pub part_alone : (edition : Edition) (job : JobData) (before now : List RackTells)
    → RunPart (by_ring job.plan (plate_rows job.plan job.files) edition.out (length job.plan.sites) edition.ring) before now
    → RunPart (delivery_of edition none_further job) before now
part_alone edition job before now part =
    subst (λ (n : ℕ). RunPart (by_ring job.plan (plate_rows job.plan job.files) edition.out n edition.ring) before now) (omega arith) part

module _ {R : Type 0} (g : Ghosts R) (edition : Edition) (further : Further) (job : JobData) (racks racks' : List R) where
  -- the text of a run where the sites' ends fit what the racks gained
  pub reports_are : (text : List ℕ) (status : ℕ) (ends : List SiteEnd) → AreReady g racks → (own : PlanData) → own ≡ job.plan → IsPlan own → length racks' ≡ length racks
      → RunFits (delivery_of edition further job) (all_told g racks) (all_told g racks') ends
      → drop (length job.plan.sites) racks' ≡ drop (length job.plan.sites) racks
      → text ≡ report_of job.plan ends ++ further.told job → status ≡ status_of_ends ends
      → Reports g edition further job racks racks' text status
  reports_are text status ends ready own same is kept fits others text_is status_is = record {
    ends = ends;
    delivers = record { enough = enough_sites own job racks ready same is; kept = kept; fits = fits; others = others };
    text_is = text_is;
    status_is = status_is;
  }

module _ {R : Type 0} (g : Ghosts R) (edition : Edition) (further : Further) (job : JobData) (racks racks' : List R) (out : SinkSeen) where
  -- the state after the run of a job and the attempt to print its report
  pub put_delivers : (text : List ℕ) (own : ℕ) (result : Result ℕ Stop) → Reports g edition further job racks racks' text own
      → Puts text own out result → Delivered g edition further job racks racks' out result
  put_delivers text own (Ok status) reports (is, grew) = record {
    text = text;
    reports = let P : ℕ → Type 0 = λ s. Reports g edition further job racks racks' text s in subst P (sym is) reports;
    grew = grew;
  }
  put_delivers text own (Err (stop.Refused refusal)) reports h = absurd h
  put_delivers text own (Err stop.Memory) reports front =
      inl (record { text = text; status = own; reports = reports; grew = front })
  put_delivers text own (Err stop.Printing) reports (front, rose) =
      (record { text = text; status = own; reports = reports; grew = front }, rose)

  -- the state after the run of an edition that was prepared
  pub delivers_run : (shelf : ShelfSeen) (result : Result ℕ Stop) → IsPrepared shelf.held edition.plan edition.files job
      → Delivered g edition further job racks racks' out result
      → Answers (run_rules edition) (makes_with g edition further) shelf racks racks' out result
  delivers_run shelf (Ok status) prepared whole = record {
    text = whole.text;
    prints = record { job = job; prepared = prepared; reports = whole.reports };
    grew = whole.grew;
  }
  delivers_run shelf (Err (stop.Refused refusal)) prepared h = absurd h
  delivers_run shelf (Err stop.Memory) prepared (inl front) = inr (inl (record {
    text = front.text;
    status = front.status;
    prints = record { job = job; prepared = prepared; reports = front.reports };
    grew = front.grew;
  }))
  delivers_run shelf (Err stop.Memory) prepared (inr begun) =
      inr (inr (record { job = job; prepared = prepared; part = begun.0 }, begun.1))
  delivers_run shelf (Err stop.Printing) prepared (front, rose) = (
    record {
      text = front.text;
      status = front.status;
      prints = record { job = job; prepared = prepared; reports = front.reports };
      grew = front.grew;
    },
    rose,
  )
