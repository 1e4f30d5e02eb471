use Rattle.std.proofs.Common.{◌≡◌, ◌∙◌, arith}
use Rattle.tif_strips.specs.Strips.{plane_part_length, plane_place, plane_row_length}
use Rattle.tif_strips.proofs.Places.{IsPlace-later, image_part-place, image_row-long}
use Rattle.tif_strips.proofs.Shapes.{part_in_row, part_length-planes}
use Rattle.tif_strips.proofs.place.Place.read.Goals as goal

pub part-requires-clause-room : goal.part-requires-clause-room
part-requires-clause-room c =
    let len : c.plane_part_len-len.result ≡ plane_part_length c.args.table.now.shape c.args.first c.args.count = rw c.shape-shape.ensures.shape at c.plane_part_len-len.ensures in
    let count = c.enter.ensures.place.all_planes c.enter.ensures.rows in
    rw (count, len) (c.requires.room ∙ part_length-planes c.args.table.now.shape c.args.first c.args.count)

pub part-requires-clause-within : goal.part-requires-clause-within
part-requires-clause-within c =
    let row : c.plane_row_len.result ≡ plane_row_length c.args.table.now.shape = rw c.shape-shape.ensures.shape at c.plane_row_len.ensures.len in
    let from : c.plane_place-from.result ≡ plane_place c.args.table.now.shape c.args.first = rw c.shape-shape.ensures.shape at c.plane_place-from.ensures in
    let len : c.plane_part_len-len.result ≡ plane_part_length c.args.table.now.shape c.args.first c.args.count = rw c.shape-shape.ensures.shape at c.plane_part_len-len.ensures in
    rw (from, len, row) (part_in_row c.args.table.now.shape c.args.first c.args.count c.requires.columns)

pub returns-clause-part : goal.returns-clause-part
returns-clause-part c =
    let row : c.plane_row_len.result ≡ plane_row_length c.args.table.now.shape = rw c.shape-shape.ensures.shape at c.plane_row_len.ensures.len in
    let from : c.plane_place-from.result ≡ plane_place c.args.table.now.shape c.args.first = rw c.shape-shape.ensures.shape at c.plane_place-from.ensures in
    let len : c.plane_part_len-len.result ≡ plane_part_length c.args.table.now.shape c.args.first c.args.count = rw c.shape-shape.ensures.shape at c.plane_part_len-len.ensures in
    rw c.enter.ensures.next at
    (image_part-place c.args.table.now c.enter.new.self c.plane_row_len.result c.plane_place-from.result c.plane_part_len-len.result c.args.first c.args.count c.part.new.into c.enter.ensures.place c.enter.ensures.rows
    row from len c.requires.columns (c.part.auto.into ∙ c.requires.room) c.part.ensures.one c.part.ensures.four)

pub returns-clause-long : goal.returns-clause-long
returns-clause-long c =
    let row : c.plane_row_len.result ≡ plane_row_length c.args.table.now.shape = rw c.shape-shape.ensures.shape at c.plane_row_len.ensures.len in
    rw c.enter.ensures.next at (image_row-long c.args.table.now c.enter.new.self c.plane_row_len.result c.enter.ensures.place c.enter.ensures.rows row)

pub returns-clause-place : goal.returns-clause-place
returns-clause-place c =
    let row : c.plane_row_len.result ≡ plane_row_length c.args.table.now.shape = rw c.shape-shape.ensures.shape at c.plane_row_len.ensures.len in
    IsPlace-later c.args.table.now c.enter.new.self 1 c.plane_row_len.result c.part.new.self c.enter.ensures.place c.enter.ensures.rows (omega arith) (omega arith) c.part.ensures.left
