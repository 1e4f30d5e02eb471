use Rattle.std.proofs.Common.{arith}
use Rattle.press_feed.specs.InkRows.{IsNextChain, passed}
use Rattle.press_feed.proofs.MapLemmas.{stepped_next, stepped_all, stepped_more, stepped_none}
use Rattle.press_feed.proofs.side_rows.pass_all.Goals as goal

pub loop-ink-init : goal.loop-ink-init
loop-ink-init c = stepped_none (passed c.args.group.now) c.args.inks.now

pub pass-requires : goal.pass-requires
pass-requires c = stepped_next (IsNextChain c.args.group.now c.args.held.now) (passed c.args.group.now) c.loop-ink.ink-index c.args.inks.now c.loop-ink.inks c.ink-item.result c.loop-ink.invariant (omega arith) c.requires

pub loop-ink-preserved : goal.loop-ink-preserved
loop-ink-preserved c =
    stepped_more (passed c.args.group.now) c.loop-ink.ink-index c.args.inks.now c.loop-ink.inks c.ink-item.result c.pass.new.self c.loop-ink.invariant (omega arith) c.pass.ensures

pub returns : goal.returns
returns c = stepped_all (passed c.args.group.now) c.loop-ink.ink-index c.args.inks.now c.loop-ink.inks c.loop-ink.invariant (omega arith)
