use Rattle.std.proofs.Common.{refl}
use Rattle.tif_strips.proofs.Tables.{kept_table}
use Rattle.tif_strips.proofs.strips.Strips.of_tested.Goals as goal

pub kept-requires : goal.kept-requires
kept-requires c =
    kept_table (record { shape = c.args.shape; bytes = c.args.bytes.now }) c.args.extents.now _ c.args.marks.now
    c.requires.shape c.requires.extents c.requires.marks refl (λ i. refl)
