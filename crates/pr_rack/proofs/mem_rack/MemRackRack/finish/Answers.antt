use Rattle.std.proofs.Common.{◌≡◌, ◌∙◌, None, ap, slice_set}
use Rattle.pr_rack.specs.Mem.{MemState}
use Rattle.pr_rack.specs.Rack.{Slots}
use Rattle.pr_rack.proofs.OneSlot.{begun_set}
use Rattle.pr_rack.proofs.mem_rack.MemRackRack.finish.Goals as goal
use Rattle.pr_rack.proofs.mem_rack.MemRackRack.finish.Goals.{After-take-path}

-- the slot is empty after its plate was taken out
emptied : (c : After-take-path) → ◌≡◌ {A = Slots} c.take-path.new.self (slice_set c.args.self.now.slots c.args.slot None)
emptied c =
    let same : ◌≡◌ {A = Slots} c.self.inside.slots c.args.self.now.slots =
    ap {A = MemState} {B = Slots} (λ r. r.slots) (c.self.view_is ∙ c.fails.ensures.counted) in
    c.take-path.ensures.after ∙ ap {A = Slots} {B = Slots} (λ slots. slice_set slots c.args.slot None) same

pub returns-clause-begun : goal.returns-clause-begun
returns-clause-begun c = begun_set _ _ c.args.slot None (emptied (goal.at.returns-clause-begun c).After-take-path)
