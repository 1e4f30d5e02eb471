use Rattle.std.proofs.Common.{◌≡◌}
use Rattle.plate_bytes.specs.Made.{so_far}
use Rattle.cmd_one.specs.Room.{FitsRow}
use Rattle.cmd_one.proofs.Pack.{first_rows}
use Rattle.cmd_one.proofs.plate.push_rows.Given as goal

abbrev pub invariant-loop-y : goal.invariant-loop-y
invariant-loop-y l = record {
  at : l.rows ≡ record l.fn.rows { next = l.y };
  room : FitsRow l.fn.rows.shape.width l.room;
  done : l.plate ≡ so_far l.fn.rows.shape.width l.fn.rows.shape.length 1200 (first_rows l.fn.rows.shape l.fn.rows.bytes l.y);
}
