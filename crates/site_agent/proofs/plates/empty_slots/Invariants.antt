use Rattle.std.proofs.Common.{◌≡◌, replicate}
use Rattle.std.specs.Prelude.{All}
use Rattle.tif_plate.specs.Plate.{strip_count}
use Rattle.site_agent.specs.Site.{counts_of}
use Rattle.site_agent.proofs.plates.empty_slots.Given as goal

abbrev pub invariant-loop-i : goal.invariant-loop-i
invariant-loop-i l = record {
  counts : counts_of l.slots.items ≡ replicate l._i (replicate (strip_count l.sides.width l.sides.height) 0);
  rows : All (λ strips. strips.next ≡ 0) l.slots.items;
  sides : All (λ strips. strips.sides ≡ l.sides) l.slots.items;
}
