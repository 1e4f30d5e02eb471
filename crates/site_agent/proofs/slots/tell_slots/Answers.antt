use Rattle.pr_rack.specs.Told.{RackTells, told}
use Rattle.site_agent.specs.Racks.{TellsSlots}
use Rattle.site_agent.proofs.Racks.{all_tell}
use Rattle.site_agent.proofs.slots.tell_slots.Goals as goal

pub returns : goal.returns
returns g c =
    let tell : g.row.R.Denot → RackTells = told g.R.Rack in
    λ site told there. all_tell tell TellsSlots c.args.racks.now site told (λ rack. g.met.R.Rack.begun_told rack) there
