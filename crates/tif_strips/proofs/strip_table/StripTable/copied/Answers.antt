use Rattle.tif_strips.proofs.Tables.{same_table}
use Rattle.tif_strips.proofs.strip_table.StripTable.copied.Goals as goal

pub invariant_of-result : goal.invariant_of-result
invariant_of-result c =
    same_table (record { shape = c.self.inside.shape; bytes = c.self.inside.bytes.now }) c.self.inside.extents c.copied.result c.self.inside.marks.now c.self.invariant c.copied.ensures.count c.copied.ensures.extents
