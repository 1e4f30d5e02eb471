use Rattle.std.proofs.Common.{◌≡◌, ◌∙◌, ◌++◌, Option, None, Some, ap, sym, arith, slice_index_or, slice_set}
use Rattle.std.specs.Option.{option_map}
use Rattle.std.proofs.lemmas.Grind.{common_steps}
use Rattle.tif_packbits.specs.Frame.{packed_in}
use Rattle.pr_rack.specs.Mem.{MemState, plate_of}
use Rattle.pr_rack.specs.Rack.{Plate, Slots, with_bytes}
use Rattle.pr_rack.proofs.OneSlot.{put_back, still_begun}
use Rattle.pr_rack.proofs.mem_rack.MemRackRack.row.Goals as goal
use Rattle.pr_rack.proofs.mem_rack.MemRackRack.row.Goals.{After-take-path, After-put}

-- the slots before the call
same_slots : (c : After-take-path) → ◌≡◌ {A = Slots} c.self.inside.slots c.args.self.now.slots
same_slots c = ap {A = MemState} {B = Slots} (λ r. r.slots) (c.self.view_is ∙ c.fails.ensures.counted)

-- the slot is empty after its plate was taken out
emptied : (c : After-take-path) → ◌≡◌ {A = Slots} c.take-path.new.self (slice_set c.args.self.now.slots c.args.slot None)
emptied c = c.take-path.ensures.after ∙ ap {A = Slots} {B = Slots} (λ slots. slice_set slots c.args.slot None) (same_slots c)

-- the row's packed bytes follow those of the plate
more_bytes : (c : After-put) → c.extend_from_slice.new.self.items ≡ c.take-path.result.1.items ++ packed_in c.args.held.now.bytes
more_bytes c = grind (arith, common_steps)

-- the plate that was in the slot
stood : (c : After-take-path) → ◌≡◌ {A = Option Plate} (slice_index_or c.args.self.now.slots c.args.slot None) (Some (plate_of c.take-path.result))
stood c = ap {A = Slots} {B = Option Plate} (λ slots. slice_index_or slots c.args.slot None) (sym (same_slots c)) ∙ c.take-path.ensures.plate

pub returns-clause-begun : goal.returns-clause-begun
returns-clause-begun c =
    let taken = (goal.at.returns-clause-begun c).After-take-path in
    still_begun _ _ _ c.args.slot (plate_of c.take-path.result) _ _ (stood taken) (emptied taken) c.put.ensures (more_bytes c)

-- the slots after the call
kept : (c : After-put) → ◌≡◌ {A = Slots} c.put.new.self (slice_set c.args.self.now.slots c.args.slot (option_map (with_bytes (packed_in c.args.held.now.bytes)) (slice_index_or c.args.self.now.slots c.args.slot None)))
kept c =
    let taken = (goal.at.returns-clause-working c).After-take-path in
    put_back _ _ _ c.args.slot (plate_of c.take-path.result) _ _ (stood taken) (emptied taken) c.put.ensures (more_bytes c)

pub returns-clause-working : goal.returns-clause-working
returns-clause-working c = ap {A = Slots} {B = Option Slots} Some (kept c)

pub returns-clause-after : goal.returns-clause-after
returns-clause-after c = rw (kept c) (grind (arith, common_steps))
