use Rattle.std.proofs.Common.{length-set, ◌∙◌, arith}
use Rattle.replate.proofs.WantedLemmas.{flags_all, flags_more}
use Rattle.replate.proofs.wanted.group_flags.Goals as goal

pub loop-ink-preserved : goal.loop-ink-preserved
loop-ink-preserved c =
    let was = c.loop-ink.invariant in
    record {
      long = length-set c.loop-ink.flags c.slot.result c.is_wanted.result ∙ was.long;
      flags' = flags_more c.args.picks.now c.args.group.now c.args.index c.loop-ink.ink-index _ c.loop-ink.flags c.slot.result c.is_wanted.result (omega arith) was.long c.slot.ensures.slot c.is_wanted.ensures was.flags';
    }

pub returns : goal.returns
returns c = flags_all c.args.picks.now c.args.group.now c.args.index c.loop-ink.ink-index c.loop-ink.flags (omega arith) c.loop-ink.invariant.flags'
