use Rattle.std.proofs.Common.{arith}
use Rattle.tif_plate.proofs.Puts.{Puts-then}
use Rattle.tif_plate.proofs.entry.put_entry.Goals as goal

pub returns-clause-put : goal.returns-clause-put
returns-clause-put c =
    Puts-then _ _ _ _ _ _ _
    (Puts-then _ _ _ _ _ _ _ c.put_u16-at.ensures.put c.put_u16-at-2.ensures.put (omega arith))
    c.put_all.ensures.put (omega arith)
