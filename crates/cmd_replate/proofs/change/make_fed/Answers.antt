use Rattle.std.proofs.Common.{ap}
use Rattle.replate.specs.Inputs.{JobData}
use Rattle.cmd_replate.specs.Change.{change_told}
use Rattle.cmd_replate.proofs.Changing.{remakes, rows_for}
use Rattle.cmd_base.proofs.Idle.{idle_at}
use Rattle.cmd_replate.proofs.change.make_fed.Goals as goal

pub deliver-requires-clause-rows : goal.deliver-requires-clause-rows
deliver-requires-clause-rows g c =
    rows_for c.inputs_of-inputs.result.plan c.args.late.now.job (ap (λ (j : JobData). j.plan) c.inputs_of-inputs.ensures.job)
    c.inputs_of-inputs.ensures.plan

pub deliver-requires-clause-idle : goal.deliver-requires-clause-idle
deliver-requires-clause-idle g c = record { each = λ site tells below at. idle_at g.R.Rack c.args.racks.now site tells c.requires.racks.idle at }

pub returns : goal.returns
returns g c =
    remakes g.R.Rack (change_told c.args.change) c.args.late.now.job c.args.late.now.picks c.inputs_of-inputs.result.plan
    c.args.racks.now c.deliver.new.racks c.deliver.result (ap (λ (j : JobData). j.plan) c.inputs_of-inputs.ensures.job)
    c.inputs_of-inputs.ensures.plan c.deliver.ensures.others c.requires.racks c.deliver.auto.racks c.deliver.ensures.fits
    c.deliver.ensures.part
