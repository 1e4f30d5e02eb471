use Rattle.std.proofs.Common.{arith}
use Rattle.tif_plate.specs.Plate.{plate_entries, plate_directory}
use Rattle.tif_plate.proofs.Puts.{Puts-then}
use Rattle.tif_plate.proofs.entry.put_directory.Goals as goal

pub returns-clause-put : goal.returns-clause-put
unfolding plate_directory plate_entries
returns-clause-put c =
    Puts-then _ _ _ _ _ _ _
    (Puts-then _ _ _ _ _ _ _ c.put_u16-at.ensures.put (rw c.entries.ensures at c.put_entries-at.ensures.put) (omega arith))
    c.put_all.ensures.put (omega arith)
