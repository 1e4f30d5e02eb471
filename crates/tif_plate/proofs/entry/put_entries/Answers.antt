use Rattle.std.proofs.Common.{refl, arith}
use Rattle.tif_plate.specs.Plate.{entry_bytes}
use Rattle.tif_plate.proofs.Puts.{Puts-step}
use Rattle.tif_plate.proofs.entry.put_entries.Goals as goal

pub loop-entry-preserved : goal.loop-entry-preserved
loop-entry-preserved c = record {
  place = omega arith;
  put = Puts-step entry_bytes 12 c.args.at c.loop-entry.place c.loop-entry.entry-index c.args.entries.now _ _ _ _ (λ entry. refl) c.loop-entry-test.true
      c.loop-entry.invariant.put c.put_entry-place.ensures.put c.loop-entry.invariant.place;
}
