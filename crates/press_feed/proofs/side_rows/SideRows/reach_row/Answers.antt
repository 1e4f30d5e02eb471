-- The rows of the ink have the row, or the block with it is drawn.
use Rattle.std.proofs.Common.{refl, arith}
use Rattle.press_feed.proofs.SideRowsLemmas.{in_all_drawn, room_same, row_reached}
use Rattle.press_feed.proofs.side_rows.SideRows.reach_row.Goals as goal

pub draw-requires-clause-room : goal.draw-requires-clause-room
draw-requires-clause-room c = room_same 64 _ c.args.self.now.inks c.args.self.now.inks refl (omega arith) c.requires.all.room

pub returns-clause-row : goal.returns-clause-row
returns-clause-row c =
    row_reached c.args.group.now c.args.self.now.side c.args.ink _ _ c.args.y c.args.self.now.inks c.draw.new.self.inks c.requires.all c.draw.ensures.drawn c.requires.ink (omega arith) (omega arith)

pub returns-clause-all : goal.returns-clause-all
returns-clause-all c = in_all_drawn c.args.group.now c.args.self.now.side _ _ c.args.self.now.inks c.draw.new.self.inks c.requires.all c.draw.ensures.drawn (c.draw.ensures.room 64 c.requires.all.room)
