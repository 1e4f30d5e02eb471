use Rattle.std.proofs.Common.{◌∙◌, ap, refl}
use Rattle.plate_verify.specs.Verifying.{told}
use Rattle.cmd_verify.specs.Check.{CheckLengths, asked_told, PrintsFound, check_rules, found_line}
use Rattle.cmd_base.specs.Seen.{shelf_seen}
use Rattle.cmd_base.specs.Status.{number_of}
use Rattle.cmd_verify.proofs.Verifying.{found_behind, found_short, looks_lengths, put_lengths, stop_lengths}
use Rattle.cmd_base.proofs.Loads.{all_behind, handed, lengths_behind, loads_behind, loads_on}
use Rattle.cmd_base.proofs.Told.{put_tells}
use Rattle.cmd_verify.proofs.check.print_check.Goals as goal

pub returns-clause-told : goal.returns-clause-told
returns-clause-told g c =
    put_tells (check_rules (asked_told c.args.asked)) (PrintsFound (asked_told c.args.asked)) _ _ c.as_bytes.result.now
    (number_of c.status_of.result) c.put_text.result
    (record {
      job = c.in_ok-job.job;
      prepared = c.in_ok-job.ensures.prepared;
      checked = c.in_ok-checked.checked;
      found = found_behind g.H.Shelf c.args.shelf.now c.load_job.new.shelf c.verify_plates.new.shelf
          c.load_job.ensures.held c.load_job.ensures.faults_stay c.in_ok-job.ensures.lengths
          c.in_ok-job.job c.args.asked.out.now c.in_ok-checked.checked c.in_ok-checked.ensures.verifies;
      text_is = c.as_bytes.ensures.value ∙ c.in_ok-line.ensures
          ∙ ap (λ sites. found_line sites (told c.in_ok-checked.checked)) c.site_count_of-sites.ensures;
      status_is = c.status_of.ensures;
    })
    c.put_text.ensures.puts

pub returns-in_err-job-clause-loads : goal.returns-in_err-job-clause-loads
returns-in_err-job-clause-loads g c =
    loads_on _ _ _ c.from_residual.ensures.1 c.in_err-job.ensures.loads

pub returns-in_err-checked-clause-loads : goal.returns-in_err-checked-clause-loads
returns-in_err-checked-clause-loads g c =
    loads_on _ _ _ c.from_residual-in_err-checked.ensures.1
    (loads_behind g.H.Shelf c.args.shelf.now c.load_job.new.shelf c.verify_plates.new.shelf _ (c.in_ok-job.ensures.loads refl)
    c.in_err-checked.ensures.loads)

pub returns-in_err-line-clause-loads : goal.returns-in_err-line-clause-loads
returns-in_err-line-clause-loads g c = λ done.
    all_behind g.H.Shelf c.args.shelf.now c.load_job.new.shelf c.verify_plates.new.shelf (c.in_ok-job.ensures.loads refl)
    (c.in_ok-checked.ensures.loads refl)

pub returns-clause-loads : goal.returns-clause-loads
returns-clause-loads g c = λ done.
    all_behind g.H.Shelf c.args.shelf.now c.load_job.new.shelf c.verify_plates.new.shelf (c.in_ok-job.ensures.loads refl)
    (c.in_ok-checked.ensures.loads refl)

pub returns-in_err-job-clause-lengths : goal.returns-in_err-job-clause-lengths
returns-in_err-job-clause-lengths g c =
    handed (CheckLengths (asked_told c.args.asked) (shelf_seen g.H.Shelf c.args.shelf.now c.load_job.new.shelf)) _ _ c.from_residual.ensures.1
    (stop_lengths (asked_told c.args.asked) _ _ c.in_err-job.ensures.lengths)

pub returns-in_err-checked-clause-lengths : goal.returns-in_err-checked-clause-lengths
returns-in_err-checked-clause-lengths g c =
    handed (CheckLengths (asked_told c.args.asked) (shelf_seen g.H.Shelf c.args.shelf.now c.verify_plates.new.shelf)) _ _ c.from_residual-in_err-checked.ensures.1
    (stop_lengths (asked_told c.args.asked) _ _
    (lengths_behind g.H.Shelf c.args.shelf.now c.load_job.new.shelf c.verify_plates.new.shelf _ c.in_ok-job.ensures.lengths
    (looks_lengths c.in_ok-job.job c.args.asked.out.now _ _ c.in_err-checked.ensures.verifies)))

pub returns-in_err-line-clause-lengths : goal.returns-in_err-line-clause-lengths
returns-in_err-line-clause-lengths g c =
    handed (CheckLengths (asked_told c.args.asked) (shelf_seen g.H.Shelf c.args.shelf.now c.verify_plates.new.shelf)) _ _ c.from_residual-in_err-line.ensures.1
    (found_short (asked_told c.args.asked) _ c.in_ok-job.job c.in_ok-checked.checked c.in_ok-job.ensures.prepared
    (found_behind g.H.Shelf c.args.shelf.now c.load_job.new.shelf c.verify_plates.new.shelf c.load_job.ensures.held
    c.load_job.ensures.faults_stay c.in_ok-job.ensures.lengths c.in_ok-job.job c.args.asked.out.now c.in_ok-checked.checked
    c.in_ok-checked.ensures.verifies))

pub returns-clause-lengths : goal.returns-clause-lengths
returns-clause-lengths g c =
    put_lengths (asked_told c.args.asked) _ _ _ _ c.put_text.result c.put_text.ensures.puts
    (found_short (asked_told c.args.asked) _ c.in_ok-job.job c.in_ok-checked.checked c.in_ok-job.ensures.prepared
    (found_behind g.H.Shelf c.args.shelf.now c.load_job.new.shelf c.verify_plates.new.shelf c.load_job.ensures.held
    c.load_job.ensures.faults_stay c.in_ok-job.ensures.lengths c.in_ok-job.job c.args.asked.out.now c.in_ok-checked.checked
    c.in_ok-checked.ensures.verifies))

pub returns-in_err-job-clause-writes : goal.returns-in_err-job-clause-writes
returns-in_err-job-clause-writes g c = λ done. refl

pub returns-in_err-checked-clause-writes : goal.returns-in_err-checked-clause-writes
returns-in_err-checked-clause-writes g c = λ done. refl

pub returns-clause-writes : goal.returns-clause-writes
returns-clause-writes g c = c.put_text.ensures.writes
