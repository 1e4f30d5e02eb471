use Rattle.std.proofs.Common.{◌*◌}
use Rattle.tif_strips.specs.Strips.{plane_row_length}
use Rattle.tif_strips.proofs.Places.{strip_samples-four}
use Rattle.tif_strips.proofs.strip_table.StripTable.four.Goals as goal

pub returns : goal.returns
returns c =
    strip_samples-four c.args.self.now.shape c.args.self.now.bytes c.args.i (c.args.above * plane_row_length c.args.self.now.shape) _ _ _ _ c.requires.planes
    c.samples.ensures c.samples-2.ensures c.samples-3.ensures c.samples-4.ensures
