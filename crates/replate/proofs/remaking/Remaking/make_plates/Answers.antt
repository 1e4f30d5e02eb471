use Rattle.std.proofs.Common.{map}
use Rattle.pr_rack.specs.Told.{RackTells, told}
use Rattle.replate.proofs.DeliveryLemmas.{none_part}
use Rattle.site_agent.proofs.Results.{on_err}
use Rattle.replate.proofs.remaking.Remaking.make_plates.Goals as goal

pub returns-in_err-row-clause-part : goal.returns-in_err-row-clause-part
returns-in_err-row-clause-part g c =
    let tell : g.row.R.Denot → RackTells = told g.R.Rack in
    on_err c.from_residual.result _ (none_part _ (map tell c.args.racks.now))

pub returns-in_err-deck-clause-part : goal.returns-in_err-deck-clause-part
returns-in_err-deck-clause-part g c =
    let tell : g.row.R.Denot → RackTells = told g.R.Rack in
    on_err c.from_residual-in_err-deck.result _ (none_part _ (map tell c.args.racks.now))
