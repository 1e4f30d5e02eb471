use Rattle.std.proofs.Common.{refl}
use Rattle.ring_run.proofs.Running.{none_leaves}
use Rattle.cmd_run.proofs.job_run.run_all.Goals as goal

pub returns-in_err-feed : goal.returns-in_err-feed
returns-in_err-feed g c = record {
  leaves = record {
    told = none_leaves _ _ _ c.from_residual.result c.from_residual.ensures.0;
    others = refl;
  };
}
