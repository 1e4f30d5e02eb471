use Rattle.std.proofs.Common.{◌≡◌, ◌∙◌, Some, ap, slice_set}
use Rattle.pr_rack.specs.Mem.{MemState, plate_of}
use Rattle.pr_rack.specs.Rack.{Slots}
use Rattle.pr_rack.proofs.OneSlot.{begun_set}
use Rattle.pr_rack.proofs.mem_rack.MemRackRack.begin.Goals as goal

pub returns-clause-begun : goal.returns-clause-begun
returns-clause-begun c =
    let same : ◌≡◌ {A = Slots} c.self.inside.slots c.args.self.now.slots =
    ap {A = MemState} {B = Slots} (λ r. r.slots) (c.self.view_is ∙ c.fails.ensures.counted) in
    begun_set _ _ c.args.slot _ (c.put.ensures ∙ ap {A = Slots} {B = Slots} (λ slots. slice_set slots c.args.slot (Some (plate_of c.in_ok-plate.plate))) same)
