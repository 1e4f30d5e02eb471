use Rattle.std.proofs.Common.{Bool, List, ap}
use Rattle.pr_rack.specs.Mem.{HostState}
use Rattle.pr_rack.proofs.OneSlot.{others_open}
use Rattle.pr_rack.proofs.host_rack.HostRackRack.finish.Goals as goal

pub returns-then-not-complete-clause-others_begun : goal.returns-then-not-complete-clause-others_begun
returns-then-not-complete-clause-others_begun g c =
    others_open _ _ _ c.args.slot (ap {A = HostState} {B = List Bool} (λ r. r.begun) c.self.view_is) c.requires.begun c.take-plate.ensures
