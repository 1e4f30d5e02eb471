use Rattle.std.proofs.Common.{◌≡◌, length, refl, rules}
use Rattle.pr_rack.specs.Told.{RackTells, told}
use Rattle.site_agent.proofs.Racks.{all_keep, front_idle}
use Rattle.site_agent.proofs.Results.{if_err, if_ok}
use Rattle.replate.proofs.DeliveryLemmas.{fits_wide, part_wide}
use Rattle.replate.proofs.delivery.deliver.Goals as goal

pub make_plates-requires-clause-idle : goal.make_plates-requires-clause-idle
make_plates-requires-clause-idle g c =
    let tell : g.row.R.Denot → RackTells = told g.R.Rack in
    let count : length c.split_at_mut-racks.result.0.now ≡ length c.args.after.now.plan.sites = search rules in
    front_idle tell (length c.args.after.now.plan.sites) c.args.racks.now c.split_at_mut-racks.result.0.now c.split_at_mut-racks.result.1.now (search rules) count c.requires.idle

pub returns-clause-fits : goal.returns-clause-fits
returns-clause-fits g c =
    let tell : g.row.R.Denot → RackTells = told g.R.Rack in
    let count : length c.split_at_mut-racks.result.0.now ≡ length c.args.after.now.plan.sites = search rules in
    if_ok c.make_plates.result _ _
    (λ ends fits. fits_wide tell _ c.args.racks.now _ c.split_at_mut-racks.result.0.now c.make_plates.new.racks c.split_at_mut-racks.result.1.now ends.items (search rules) refl count c.make_plates.auto.racks fits)
    c.make_plates.ensures.fits

pub returns-clause-part : goal.returns-clause-part
returns-clause-part g c =
    let tell : g.row.R.Denot → RackTells = told g.R.Rack in
    let count : length c.split_at_mut-racks.result.0.now ≡ length c.args.after.now.plan.sites = search rules in
    if_err c.make_plates.result _ _
    (λ part. part_wide tell _ c.args.racks.now _ c.split_at_mut-racks.result.0.now c.make_plates.new.racks c.split_at_mut-racks.result.1.now (search rules) refl count c.make_plates.auto.racks part)
    c.make_plates.ensures.part

pub returns-clause-counts : goal.returns-clause-counts
returns-clause-counts g c =
    let tell : g.row.R.Denot → RackTells = told g.R.Rack in
    all_keep tell c.args.racks.now _ c.split_at_mut-racks.result.0.now c.make_plates.new.racks c.split_at_mut-racks.result.1.now (search rules) refl c.make_plates.auto.racks c.make_plates.ensures.counts
