use Rattle.std.proofs.Common.{arith}
use Rattle.press_feed.specs.InkRows.{restarted}
use Rattle.press_feed.proofs.MapLemmas.{stepped_all, stepped_more, stepped_none}
use Rattle.press_feed.proofs.side_rows.restart_all.Goals as goal

pub loop-ink-init : goal.loop-ink-init
loop-ink-init c = stepped_none (restarted c.args.group.now c.args.page) c.args.inks.now

pub loop-ink-preserved : goal.loop-ink-preserved
loop-ink-preserved c =
    stepped_more (restarted c.args.group.now c.args.page) c.loop-ink.ink-index c.args.inks.now c.loop-ink.inks c.ink-item.result c.restart.new.self c.loop-ink.invariant (omega arith) c.restart.ensures

pub returns : goal.returns
returns c = stepped_all (restarted c.args.group.now c.args.page) c.loop-ink.ink-index c.args.inks.now c.loop-ink.inks c.loop-ink.invariant (omega arith)
