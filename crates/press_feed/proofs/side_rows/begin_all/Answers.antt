use Rattle.std.proofs.Common.{arith}
use Rattle.press_feed.specs.InkRows.{begun}
use Rattle.press_feed.proofs.MapLemmas.{stepped_all, stepped_more, stepped_none}
use Rattle.press_feed.proofs.side_rows.begin_all.Goals as goal

pub loop-ink-init : goal.loop-ink-init
loop-ink-init c = stepped_none (begun c.args.group.now c.args.page c.args.first) c.args.inks.now

pub loop-ink-preserved : goal.loop-ink-preserved
loop-ink-preserved c =
    stepped_more (begun c.args.group.now c.args.page c.args.first) c.loop-ink.ink-index c.args.inks.now c.loop-ink.inks c.ink-item.result c.begin.new.self c.loop-ink.invariant (omega arith) c.begin.ensures

pub returns : goal.returns
returns c = stepped_all (begun c.args.group.now c.args.page c.args.first) c.loop-ink.ink-index c.args.inks.now c.loop-ink.inks c.loop-ink.invariant (omega arith)
