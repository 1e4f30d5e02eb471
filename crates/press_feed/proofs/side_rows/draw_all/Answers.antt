use Rattle.std.proofs.Common.{arith}
use Rattle.press_feed.specs.InkRows.{IsNextIn, drawn_on}
use Rattle.press_feed.proofs.MapLemmas.{stepped_next, stepped_all, stepped_more, stepped_none}
use Rattle.press_feed.proofs.side_rows.draw_all.Goals as goal

pub loop-ink-init : goal.loop-ink-init
loop-ink-init c = stepped_none (drawn_on c.args.group.now c.args.held.now.count) c.args.inks.now

pub draw-requires : goal.draw-requires
draw-requires c = stepped_next (IsNextIn c.args.group.now c.args.held.now) (drawn_on c.args.group.now c.args.held.now.count) c.loop-ink.ink-index c.args.inks.now c.loop-ink.inks c.ink-item.result c.loop-ink.invariant (omega arith) c.requires

pub loop-ink-preserved : goal.loop-ink-preserved
loop-ink-preserved c =
    stepped_more (drawn_on c.args.group.now c.args.held.now.count) c.loop-ink.ink-index c.args.inks.now c.loop-ink.inks c.ink-item.result c.draw.new.self c.loop-ink.invariant (omega arith) c.draw.ensures

pub returns : goal.returns
returns c = stepped_all (drawn_on c.args.group.now c.args.held.now.count) c.loop-ink.ink-index c.args.inks.now c.loop-ink.inks c.loop-ink.invariant (omega arith)
