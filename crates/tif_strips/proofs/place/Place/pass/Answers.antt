use Rattle.std.proofs.Common.{◌≡◌, ◌*◌, refl}
use Rattle.tif_strips.specs.Strips.{plane_row_length}
use Rattle.tif_strips.proofs.Places.{IsPlace-later}
use Rattle.tif_strips.proofs.place.Place.pass.Goals as goal

pub returns-clause-place : goal.returns-clause-place
returns-clause-place c =
    let row : c.plane_row_len.result ≡ plane_row_length c.args.table.now.shape = rw c.shape.ensures.shape at c.plane_row_len.ensures.len in
    IsPlace-later c.args.table.now c.args.self.now c.args.count (c.args.count * c.plane_row_len.result) c.skip.new.self c.requires.place c.requires.rows.0 c.requires.rows.1 (rw row refl) c.skip.ensures.left
