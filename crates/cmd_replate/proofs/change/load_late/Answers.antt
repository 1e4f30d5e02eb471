use Rattle.std.proofs.Common.{refl, ◌∙◌}
use Rattle.cmd_base.specs.Seen.{shelf_seen}
use Rattle.cmd_base.proofs.Loads.{all_behind, lengths_behind, lengths_on, loads_behind, loads_on, none_lengths}
use Rattle.cmd_replate.proofs.change.load_late.Goals as goal

pub returns-in_err-before-clause-loads : goal.returns-in_err-before-clause-loads
returns-in_err-before-clause-loads g c =
    loads_on _ _ _ c.from_residual.ensures.1 c.in_err-before.ensures.loads

pub returns-in_err-job-clause-loads : goal.returns-in_err-job-clause-loads
returns-in_err-job-clause-loads g c =
    loads_on _ _ _ c.from_residual-in_err-job.ensures.1
    (loads_behind g.H.Shelf _ _ _ _ (c.in_ok-before.ensures.loads refl) c.in_err-job.ensures.loads)

pub returns-in_err-late-clause-loads : goal.returns-in_err-late-clause-loads
returns-in_err-late-clause-loads g c = λ done.
    all_behind g.H.Shelf _ _ _ (c.in_ok-before.ensures.loads refl) (c.in_ok-job.ensures.loads refl)

pub returns-clause-loads : goal.returns-clause-loads
returns-clause-loads g c = λ done.
    all_behind g.H.Shelf _ _ _ (c.in_ok-before.ensures.loads refl) (c.in_ok-job.ensures.loads refl)

pub returns-in_err-before-clause-lengths : goal.returns-in_err-before-clause-lengths
returns-in_err-before-clause-lengths g c =
    lengths_on (shelf_seen g.H.Shelf c.args.shelf.now c.load_job.new.shelf) _ _ c.from_residual.ensures.1 c.in_err-before.ensures.lengths

pub returns-in_err-job-clause-lengths : goal.returns-in_err-job-clause-lengths
returns-in_err-job-clause-lengths g c =
    lengths_on (shelf_seen g.H.Shelf c.args.shelf.now c.load_job-2.new.shelf) _ _ c.from_residual-in_err-job.ensures.1
    (lengths_behind g.H.Shelf _ _ _ _ c.in_ok-before.ensures.lengths c.in_err-job.ensures.lengths)

pub returns-in_err-late-clause-lengths : goal.returns-in_err-late-clause-lengths
returns-in_err-late-clause-lengths g c =
    none_lengths (shelf_seen g.H.Shelf c.args.shelf.now c.load_job-2.new.shelf)
    c.from_residual-in_err-late.result (c.in_ok-job.ensures.lengths ∙ c.in_ok-before.ensures.lengths)

pub returns-clause-lengths : goal.returns-clause-lengths
returns-clause-lengths g c = c.in_ok-job.ensures.lengths ∙ c.in_ok-before.ensures.lengths
