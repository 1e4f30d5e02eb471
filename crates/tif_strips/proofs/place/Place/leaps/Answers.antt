use Rattle.std.proofs.Common.{◌+◌, ◌<◌, arith}
use Rattle.tif_strips.proofs.Shapes.{row_in_strip, strip_of_row}
use Rattle.tif_strips.proofs.place.Place.leaps.Goals as goal

pub is_marked-requires-clause-within : goal.is_marked-requires-clause-within
is_marked-requires-clause-within c =
    let below : c.args.self.now.next + c.args.count < c.args.table.now.shape.length = omega (arith, c.requires.place.to_strip_end, c.requires.rows) in
    rw c.shape-strip_rows.ensures.shape (strip_of_row c.args.table.now.shape (c.args.self.now.next + c.args.count) c.requires.place.striped below)

pub is_marked-requires-clause-above : goal.is_marked-requires-clause-above
is_marked-requires-clause-above c =
    let below : c.args.self.now.next + c.args.count < c.args.table.now.shape.length = omega (arith, c.requires.place.to_strip_end, c.requires.rows) in
    rw c.shape-strip_rows.ensures.shape (row_in_strip c.args.table.now.shape (c.args.self.now.next + c.args.count) c.requires.place.striped below)
