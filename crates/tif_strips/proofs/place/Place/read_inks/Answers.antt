use Rattle.std.proofs.Common.{◌≡◌, sym, subst, ◌∙◌, arith}
use Rattle.tif_strips.specs.Strips.{plane_row_length}
use Rattle.tif_strips.specs.Planes.{FitInks}
use Rattle.tif_strips.proofs.Places.{IsPlace-later, inks_part-place}
use Rattle.tif_strips.proofs.Agains.{are_above}
use Rattle.tif_strips.proofs.Shapes.{ink_wide}
use Rattle.tif_strips.proofs.place.Place.read_inks.Goals as goal

pub inks-last-requires-clause-fits : goal.inks-last-requires-clause-fits
inks-last-requires-clause-fits c =
    let row : c.plane_row_len-row.result ≡ plane_row_length c.args.table.now.shape = rw c.shape.ensures.shape at c.plane_row_len-row.ensures.len in
    subst (λ wide. FitInks wide c.args.first c.args.cyan.now c.args.magenta.now c.args.yellow.now c.args.black.now) (sym (row ∙ ink_wide c.args.table.now.shape c.requires.planes)) c.requires.columns

pub returns-clause-inks : goal.returns-clause-inks
returns-clause-inks c =
    let row : c.plane_row_len-row.result ≡ plane_row_length c.args.table.now.shape = rw c.shape.ensures.shape at c.plane_row_len-row.ensures.len in
    rw c.enter.ensures.next at
    (inks_part-place c.args.table.now c.enter.new.self c.plane_row_len-row.result c.args.first _ _ _ _ _ _ _ _ c.enter.ensures.place c.enter.ensures.rows row c.requires.planes c.requires.columns c.inks-last.ensures.inks)

pub returns-clause-place : goal.returns-clause-place
returns-clause-place c =
    let row : c.plane_row_len-row.result ≡ plane_row_length c.args.table.now.shape = rw c.shape.ensures.shape at c.plane_row_len-row.ensures.len in
    IsPlace-later c.args.table.now c.enter.new.self 1 c.plane_row_len-row.result c.inks-last.new.self c.enter.ensures.place c.enter.ensures.rows (omega arith) (omega arith) c.inks-last.ensures.left

pub returns-clause-known : goal.returns-clause-known
returns-clause-known c =
    let row : c.plane_row_len-row.result ≡ plane_row_length c.args.table.now.shape = rw c.shape.ensures.shape at c.plane_row_len-row.ensures.len in
    rw c.enter.ensures.next at
    (are_above c.args.table.now c.enter.new.self c.plane_row_len-row.result c.inks-last.result c.enter.ensures.place c.enter.ensures.rows row c.requires.planes c.inks-last.ensures.known)
