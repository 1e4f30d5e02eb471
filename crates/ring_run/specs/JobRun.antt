-- A run of a job: what it requires at its beginning, and what it leaves.
use Rattle.std.specs.Prelude.{◌≡◌, ◌+◌, ◌<◌, ◌≤◌, List, length, drop, Option, Result, IfOk, OnErr}
use Rattle.pr_base.specs.Number.{IsWithin}
use Rattle.pr_rack.specs.declared.rack.Rack.{Ghosts}
use Rattle.pr_rack.specs.Told.{RackTells, all_told}
use Rattle.plan_json.specs.Plan.{IsPlan}
use Rattle.plan_rows.specs.Rows.{rows_of}
use Rattle.press_job.specs.Job.{JobData}
use Rattle.ink_keys.specs.Counts.{CountsData}
use Rattle.ink_keys.specs.Turn.{KeyReaderData}
use Rattle.site_agent.specs.Racks.{AreIdle, KeepCounts}
use Rattle.ring_run.specs.declared.rows.Run.{Run}
use Rattle.ring_run.specs.declared.site_end.Outcome.{Outcome}
use Rattle.ring_run.specs.Fits.{Delivery, RunFits, RunPart, by_job}
use Rattle.ring_run.specs.Keyed.{AreFreshKeys, CountsFit, further_count}

-- a run is over the rows of its plan, at a ring of 1 to 1024 places, with a patience of at least one look
pub record IsRun (run : Run) : Type 0 where
  pub plan_is : IsPlan run.plan.now
  pub rows_are : run.rows.now ≡ rows_of run.plan.now
  pub places : IsWithin 1 1024 run.ring
  pub some : 0 < run.patience

-- a run may begin with this key reader, if any, and these racks
pub record MayRun {R : Type 0} (g : Ghosts R) (run : Run) (keys : Option KeyReaderData) (racks : List R)
    : Type 0 where
  -- the run is over the rows of its plan
  pub run_is : IsRun run
  -- its ring has a reader for each site, followed by one for the key reader, if there is one
  pub readers_are : run.readers ≡ length run.plan.now.sites + further_count keys
  -- the key reader is for the rows of the plan, and has counted nothing yet
  pub fresh : AreFreshKeys run.plan.now keys
  -- each site has a rack
  pub enough : length run.plan.now.sites ≤ length racks
  -- no slot of a site's rack is begun
  pub idle : AreIdle (length run.plan.now.sites) (all_told g racks)

-- what a run leaves on the racks of its sites, and the counts that it returns, by its result
pub record RunLeaves {E : Type 0} (delivery : Delivery) (keys : Option KeyReaderData)
    (before now : List RackTells) (answer : Result (Outcome × Option CountsData) E) : Type 0 where
  -- each site's end fits what its rack has in addition to before
  pub fits : IfOk answer (λ pair. RunFits delivery before now pair.0.sites.items)
  -- the counts of the key reader are those of the plates
  pub counts_fit : IfOk answer (λ pair. CountsFit delivery.plan delivery.rows keys pair.1)
  -- out of memory: each rack has, in addition, the first of its site's files and the first of its rows
  pub part : OnErr answer (RunPart delivery before now)
  -- no count of failures falls, on any outcome
  pub counts : KeepCounts before now

-- what a run of a job leaves, by its result
pub record JobLeaves {R E : Type 0} (g : Ghosts R) (job : JobData) (run : Run) (keys : Option KeyReaderData)
    (racks racks' : List R) (answer : Result (Outcome × Option CountsData) E) : Type 0 where
  -- what a run leaves that delivers the job's rows by the ring's readers
  pub told : RunLeaves (by_job job run.out.now run.readers run.ring) keys (all_told g racks)
      (all_told g racks') answer
  -- the racks after those of the sites are unchanged
  pub others : drop (length job.plan.sites) racks' ≡ drop (length job.plan.sites) racks
