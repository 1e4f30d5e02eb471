use Rattle.std.proofs.Common.{Bool, List, ap}
use Rattle.pr_rack.specs.Mem.{HostState}
use Rattle.pr_rack.proofs.OneSlot.{open_again, others_open, slot_within}
use Rattle.pr_rack.proofs.host_rack.HostRackRack.row.Goals as goal

pub returns-then-not-append_row-clause-others_begun : goal.returns-then-not-append_row-clause-others_begun
returns-then-not-append_row-clause-others_begun g c =
    others_open _ _ _ c.args.slot (ap {A = HostState} {B = List Bool} (λ r. r.begun) c.self.view_is) c.requires.begun c.take-plate.ensures

pub put-requires : goal.put-requires
put-requires g c =
    slot_within _ _ _ c.args.slot (ap {A = HostState} {B = List Bool} (λ r. r.begun) c.self.view_is) c.requires.begun c.take-plate.ensures

pub returns-clause-begun : goal.returns-clause-begun
returns-clause-begun g c =
    open_again _ _ _ c.args.slot (ap {A = HostState} {B = List Bool} (λ r. r.begun) c.self.view_is) c.requires.begun c.take-plate.ensures _ c.put.ensures
