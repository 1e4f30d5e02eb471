use Rattle.std.proofs.Common.{sym, ap, ◌∙◌, inl, refl}
use Rattle.std.proofs.lemmas.List.{append-nil}
use Rattle.std.proofs.lemmas.Result.{err_from_is_err_and}
use Rattle.cmd_run.specs.Edition.{edition_told, none_further}
use Rattle.cmd_run.specs.Report.{report_of, status_of_ends}
use Rattle.cmd_base.specs.Status.{number_of}
use Rattle.cmd_run.proofs.Delivering.{fits_alone, idle_for, put_delivers, reports_are}
use Rattle.cmd_base.proofs.Grow.{grew_nothing}
use Rattle.cmd_run.proofs.edition.deliver.Goals as goal

pub run_job-requires-clause-idle : goal.run_job-requires-clause-idle
run_job-requires-clause-idle g c κs within = idle_for g.R.Rack c.args.racks.now _ c.requires.racks

pub returns-in_err-text-clause-delivered : goal.returns-in_err-text-clause-delivered
returns-in_err-text-clause-delivered g c =
    let p = err_from_is_err_and c.from_residual-in_err-text.result c.from_residual-in_err-text.ensures.1 in
    let edition = edition_told c.args.edition in
    let job = c.args.job.now in
    let ends = c.in_ok-outcome.outcome.sites.items in
    rw (p.1, p.2) (inl (record {
      text = report_of job.plan ends;
      status = status_of_ends ends;
      reports = reports_are g.R.Rack edition none_further job c.args.racks.now c.run_job.new.racks _ _ ends
          c.requires.racks _ c.plan-plan.ensures.plan c.files-files.ensures.plan c.run_job.auto.racks
          (fits_alone edition job _ _ _ c.in_ok-outcome.ensures.fits) c.run_job.ensures.others
          (sym (append-nil (report_of job.plan ends))) refl;
      grew = (0, grew_nothing _ _ refl);
    }))

pub returns-clause-delivered : goal.returns-clause-delivered
returns-clause-delivered g c =
    let edition = edition_told c.args.edition in
    let job = c.args.job.now in
    let ends = c.in_ok-outcome.outcome.sites.items in
    put_delivers g.R.Rack edition none_further job c.args.racks.now c.run_job.new.racks _
    c.as_bytes.result.now (number_of c.status_of.result) c.put_text.result
    (reports_are g.R.Rack edition none_further job c.args.racks.now c.run_job.new.racks _ _ ends
    c.requires.racks _ c.plan-plan.ensures.plan c.files-files.ensures.plan c.run_job.auto.racks
    (fits_alone edition job _ _ _ c.in_ok-outcome.ensures.fits) c.run_job.ensures.others
    (c.as_bytes.ensures.value ∙ c.in_ok-text.ensures
    ∙ ap (report_of c.plan-plan.result.now) c.as_slice-ends.ensures.value
    ∙ ap (λ plan. report_of plan ends) c.plan-plan.ensures.plan ∙ sym (append-nil _))
    (c.status_of.ensures ∙ ap status_of_ends c.as_slice-ends.ensures.value))
    c.put_text.ensures.puts

pub returns-clause-writes : goal.returns-clause-writes
returns-clause-writes g c = c.put_text.ensures.writes
