use Rattle.std.proofs.Common.{◌≡◌, ◌+◌, ◌*◌, take}
use Rattle.std.specs.List.{flat_map}
use Rattle.tif_plate.specs.Plate.{entry_bytes}
use Rattle.tif_plate.specs.Put.{Puts}
use Rattle.tif_plate.proofs.entry.put_entries.Given as goal

abbrev pub invariant-loop-entry : goal.invariant-loop-entry
invariant-loop-entry l = record {
  place : l.place ≡ l.at + 12 * l.entry-index;
  put : Puts l.at (flat_map entry_bytes (take l.entry-index l.entries)) l.fn.into l.into;
}
