-- Each iteration draws one more block.
use Rattle.std.proofs.Common.{◌≡◌, ℕ, ◌+◌, ◌*◌, map, refl, ap, sym, ◌∙◌, arith}
use Rattle.press_feed.specs.declared.side.Side.{Side}
use Rattle.press_feed.specs.SideRows.{drawn_for, drawns, next_of}
use Rattle.press_feed.specs.Sides.{page_on}
use Rattle.press_feed.proofs.SideRowsLemmas.{all_open, at_same, drawn_further}
use Rattle.press_feed.proofs.side_rows.SideRows.draw_blocks.Goals as goal

pub draw_block-requires-clause-free : goal.draw_block-requires-clause-free
draw_block-requires-clause-free c =
    let group = c.args.group.now in
    let own = c.args.self.now in
    let now = c.loop-block.self in
    let is = c.loop-block.invariant in
    all_open group own.side now.held.page (next_of now) c.args.first (8 * c.loop-block._block) 8 (8 * c.args.blocks) own.inks now.inks is.drawn (is.at.page_is ∙ ap {A = Side} (λ s. page_on s group) is.same.side_is)
    (sym is.at.next_is) (omega arith) c.requires.room

pub loop-block-preserved : goal.loop-block-preserved
loop-block-preserved c =
    let group = c.args.group.now in
    let own = c.args.self.now in
    let now = c.loop-block.self in
    let is = c.loop-block.invariant in
    let block = c.loop-block._block in
    let next = is.at.next_is in
    let more : 8 * block + 8 ≡ 8 * (block + 1) = omega arith in
    record {
      at = at_same group (next_of now + 8) (c.args.first + 8 * (block + 1)) c.draw_block.new.self (c.draw_block.ensures.at refl) (omega arith);
      same = record {
        job_is = c.draw_block.ensures.same.job_is ∙ is.same.job_is;
        side_is = c.draw_block.ensures.same.side_is ∙ is.same.side_is;
      };
      drawn = drawn_further group own.side c.args.first (8 * block) 8 (drawns own.inks) (drawns now.inks) (drawns c.draw_block.new.self.inks) is.drawn c.draw_block.ensures.drawn
          ∙ ap {A = ℕ} (λ n. map (drawn_for group own.side c.args.first n) (drawns own.inks)) more;
    }
