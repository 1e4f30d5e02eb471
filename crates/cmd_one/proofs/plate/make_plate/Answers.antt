use Rattle.std.proofs.Common.{ap, ◌∙◌}
use Rattle.tif_strips.specs.Strips.{Cursor}
use Rattle.cmd_one.specs.One.{black_plate, black_rows}
use Rattle.cmd_one.proofs.Pack.{has_black, whole_black}
use Rattle.cmd_one.proofs.plate.make_plate.Goals as goal

pub finish-requires : goal.finish-requires
finish-requires c =
    let cursor = c.rows.result in
    record {
      rows = black_rows cursor.shape cursor.bytes;
      has = has_black cursor.shape cursor.bytes c.push_rows.new.plate c.in_ok-push_rows.ensures;
    }

pub returns : goal.returns
returns c =
    let cursor = c.rows.result in
    let is = c.in_ok-push_rows.ensures in
    whole_black cursor.shape cursor.bytes c.push_rows.new.plate c.finish.new.self is
    (c.in_ok-finish.ensures.file (black_rows cursor.shape cursor.bytes) (has_black cursor.shape cursor.bytes c.push_rows.new.plate is))
    ∙ ap {A = Cursor} (λ rows. black_plate rows.shape rows.bytes) c.rows.ensures.cursor
