use Rattle.std.proofs.Common.{◌++◌, ℕ, ap, ◌∙◌, inl, refl}
use Rattle.std.proofs.lemmas.Result.{err_from_is_err_and}
use Rattle.cmd_run.specs.Edition.{edition_told}
use Rattle.cmd_run.specs.Keys.{further_keys, keys_lines}
use Rattle.cmd_run.specs.Report.{report_of, status_of_ends}
use Rattle.cmd_base.specs.Status.{number_of}
use Rattle.cmd_run.proofs.Delivering.{idle_for, put_delivers, reports_are}
use Rattle.cmd_base.proofs.Grow.{grew_nothing}
use Rattle.cmd_run.proofs.keys.deliver.Goals as goal

pub run_keys-requires-clause-idle : goal.run_keys-requires-clause-idle
run_keys-requires-clause-idle g c κs within = idle_for g.R.Rack c.args.racks.now _ c.requires.racks

pub returns-in_err-text-clause-delivered : goal.returns-in_err-text-clause-delivered
returns-in_err-text-clause-delivered g c =
    let p = err_from_is_err_and c.from_residual-in_err-text.result c.from_residual-in_err-text.ensures.1 in
    let job = c.args.job.now in
    let ends = c.in_ok-outcome.outcome.sites.items in
    rw (p.1, p.2) (inl (record {
      text = report_of job.plan ends ++ keys_lines c.args.keys job;
      status = status_of_ends ends;
      reports = reports_are g.R.Rack (edition_told c.args.edition) (further_keys c.args.keys) job
          c.args.racks.now c.run_keys.new.racks _ _ ends c.requires.racks _ c.plan-plan.ensures.plan c.files-files.ensures.plan
          c.run_keys.auto.racks c.in_ok-outcome.ensures.fits c.run_keys.ensures.others refl refl;
      grew = (0, grew_nothing _ _ refl);
    }))

pub returns-clause-delivered : goal.returns-clause-delivered
returns-clause-delivered g c =
    let edition = edition_told c.args.edition in
    let further = further_keys c.args.keys in
    let job = c.args.job.now in
    let ends = c.in_ok-outcome.outcome.sites.items in
    put_delivers g.R.Rack edition further job c.args.racks.now c.run_keys.new.racks _
    c.as_bytes.result.now (number_of c.status_of.result) c.put_text.result
    (reports_are g.R.Rack edition further job c.args.racks.now c.run_keys.new.racks _ _ ends
    c.requires.racks _ c.plan-plan.ensures.plan c.files-files.ensures.plan c.run_keys.auto.racks c.in_ok-outcome.ensures.fits
    c.run_keys.ensures.others
    (c.as_bytes.ensures.value ∙ c.in_ok-text.ensures
    ∙ ap (λ list. report_of job.plan list ++ keys_lines c.in_ok-outcome.counts.keys job)
    c.as_slice-ends.ensures.value
    ∙ ap (λ (k : ℕ). report_of job.plan ends ++ keys_lines k job) c.in_ok-outcome.ensures.keys.keys_are)
    (c.status_of.ensures ∙ ap status_of_ends c.as_slice-ends.ensures.value))
    c.put_text.ensures.puts

pub returns-clause-writes : goal.returns-clause-writes
returns-clause-writes g c = c.put_text.ensures.writes
