use Rattle.std.proofs.Common.{◌≡◌, ◌+◌, ◌*◌, map}
use Rattle.press_feed.specs.SideRows.{IsAtGroup, IsSameSide, drawn_for, drawns}
use Rattle.press_feed.proofs.side_rows.SideRows.draw_blocks.Given as goal

abbrev pub invariant-loop-block : goal.invariant-loop-block
invariant-loop-block l = record {
  at : IsAtGroup l.group (l.first + 8 * l._block) l.self;
  same : IsSameSide l.fn.self l.self;
  drawn : drawns l.self.inks ≡ map (drawn_for l.group l.fn.self.side l.first (8 * l._block)) (drawns l.fn.self.inks);
}
