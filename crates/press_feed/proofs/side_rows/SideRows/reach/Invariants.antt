use Rattle.std.proofs.Common.{◌*◌}
use Rattle.press_feed.specs.SideRows.{IsMovedTo}
use Rattle.press_feed.proofs.side_rows.SideRows.reach.Given as goal

abbrev pub invariant-loop-block : goal.invariant-loop-block
invariant-loop-block l = IsMovedTo l.group (8 * l._block) l.fn.self l.self
