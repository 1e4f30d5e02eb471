-- Both sides have the row in the ink.
use Rattle.std.proofs.Common.{subst}
use Rattle.press_feed.specs.Drawn.{HasRow}
use Rattle.press_feed.specs.Sides.{page_on}
use Rattle.press_feed.specs.declared.side.Side.{Side}
use Rattle.press_feed.proofs.page_blocks.PageBlocks.draw.Goals as goal

pub join_sides-requires-clause-left_row : goal.join_sides-requires-clause-left_row
join_sides-requires-clause-left_row c =
    subst {A = Side} (λ s. HasRow c.rows-left.result.now (page_on s c.args.group.now) c.args.y) c.self.invariant.left_is.side_is (c.reach_row.ensures.row c.rows-left.result.now c.rows-left.ensures.rows)

pub join_sides-requires-clause-right_row : goal.join_sides-requires-clause-right_row
join_sides-requires-clause-right_row c =
    subst {A = Side} (λ s. HasRow c.rows-right.result.now (page_on s c.args.group.now) c.args.y) c.self.invariant.right_is.side_is (c.reach_row-2.ensures.row c.rows-right.result.now c.rows-right.ensures.rows)
