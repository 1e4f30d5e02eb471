use Rattle.replate.proofs.WantedLemmas.{wanted_more}
use Rattle.replate.proofs.wanted.wanted_inks.Goals as goal

pub loop-index-preserved : goal.loop-index-preserved
loop-index-preserved c =
    wanted_more c.args.picks.now c.args.after.now.plan c.loop-index.index c.loop-index.flags.items _ c.group_flags.result c.group_with-group.result.now c.in_ok-push.ensures.items c.group_with-group.ensures.group
    c.group_flags.ensures c.loop-index.invariant
