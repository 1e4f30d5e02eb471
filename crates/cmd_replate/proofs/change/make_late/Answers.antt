use Rattle.std.proofs.Common.{refl}
use Rattle.std.proofs.lemmas.Result.{err_from_is_err_and}
use Rattle.pr_rack.specs.Told.{all_told}
use Rattle.replate.proofs.DeliveryLemmas.{none_part}
use Rattle.cmd_replate.proofs.change.make_late.Goals as goal

pub returns-in_err-flags : goal.returns-in_err-flags
returns-in_err-flags g c =
    rw (err_from_is_err_and c.from_residual.result c.from_residual.ensures.1).1
    (record { part = none_part _ (all_told g.R.Rack c.args.racks.now); others = refl })

pub returns-in_err-feed : goal.returns-in_err-feed
returns-in_err-feed g c =
    rw (err_from_is_err_and c.from_residual-in_err-feed.result c.from_residual-in_err-feed.ensures.1).1
    (record { part = none_part _ (all_told g.R.Rack c.args.racks.now); others = refl })
