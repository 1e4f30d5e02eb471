-- Whole blocks first, and the page's last rows.
use Rattle.std.proofs.Common.{◌≡◌, ℕ, ◌+◌, ◌*◌, ◌/◌, ◌%◌, map, ap, sym, ◌∙◌, arith}
use Rattle.press_feed.specs.declared.side.Side.{Side}
use Rattle.press_feed.specs.SideRows.{drawn_for, drawns, next_of}
use Rattle.press_feed.specs.Sides.{page_on}
use Rattle.press_feed.proofs.SideRowsLemmas.{all_open, drawn_further, room_begun, room_same}
use Rattle.press_feed.proofs.side_rows.SideRows.draw.Goals as goal

pub draw_blocks-requires-clause-room : goal.draw_blocks-requires-clause-room
draw_blocks-requires-clause-room c = room_same c.args.count (8 * (c.args.count / 8)) c.args.self.now.inks c.enter.new.self.inks c.enter.ensures.drawn (omega arith) c.requires.room

pub returns-then-count-eq0-clause-room : goal.returns-then-count-eq0-clause-room
returns-then-count-eq0-clause-room c = λ height room.
    room_begun height c.args.group.now c.enter.new.self.side c.args.first (8 * (c.args.count / 8)) c.enter.new.self.inks c.draw_blocks.new.self.inks c.draw_blocks.ensures.drawn
    (room_same height height c.args.self.now.inks c.enter.new.self.inks c.enter.ensures.drawn (omega arith) room)

pub draw_block-requires-clause-free : goal.draw_block-requires-clause-free
draw_block-requires-clause-free c =
    let group = c.args.group.now in
    let count = c.args.count in
    let before = c.enter.new.self in
    let now = c.draw_blocks.new.self in
    all_open group before.side now.held.page (next_of now) c.args.first (8 * (count / 8)) (count % 8) count before.inks now.inks c.draw_blocks.ensures.drawn
    (c.draw_blocks.ensures.at.page_is ∙ ap {A = Side} (λ s. page_on s group) c.draw_blocks.ensures.same.side_is) (sym c.draw_blocks.ensures.at.next_is) (omega arith)
    (room_same count count c.args.self.now.inks before.inks c.enter.ensures.drawn (omega arith) c.requires.room)

pub returns-clause-drawn : goal.returns-clause-drawn
returns-clause-drawn c =
    let group = c.args.group.now in
    let count = c.args.count in
    let first = c.args.first in
    let before = c.enter.new.self in
    let all : 8 * (count / 8) + count % 8 ≡ count = omega arith in
    drawn_further group before.side first (8 * (count / 8)) (count % 8) (drawns before.inks) (drawns c.draw_blocks.new.self.inks) (drawns c.draw_block.new.self.inks) c.draw_blocks.ensures.drawn c.draw_block.ensures.drawn
    ∙ ap {A = ℕ} (λ n. map (drawn_for group before.side first n) (drawns before.inks)) all
    ∙ ap {A = Side} (λ s. map (drawn_for group s first count) (drawns before.inks)) c.enter.ensures.same.side_is
    ∙ ap (map (drawn_for group c.args.self.now.side first count)) c.enter.ensures.drawn

pub returns-clause-room : goal.returns-clause-room
returns-clause-room c = λ height room.
    let group = c.args.group.now in
    let count = c.args.count in
    let before = c.enter.new.self in
    room_begun height group before.side c.args.first (8 * (count / 8) + count % 8) before.inks c.draw_block.new.self.inks
    (drawn_further group before.side c.args.first (8 * (count / 8)) (count % 8) (drawns before.inks) (drawns c.draw_blocks.new.self.inks) (drawns c.draw_block.new.self.inks) c.draw_blocks.ensures.drawn c.draw_block.ensures.drawn)
    (room_same height height c.args.self.now.inks before.inks c.enter.ensures.drawn (omega arith) room)
