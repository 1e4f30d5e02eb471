use Rattle.std.proofs.Common.{arith}
use Rattle.press_feed.specs.Band.{IsShareOf}
use Rattle.press_feed.proofs.BandLemmas.{pushed_all}
use Rattle.press_feed.proofs.band.open_shares.Goals as goal

pub loop-share-preserved : goal.loop-share-preserved
loop-share-preserved c = record {
  long = omega (arith, c.in_ok-push.ensures.len);
  own = pushed_all (IsShareOf c.args.job.now c.args.each) c.loop-share.shares.items _ _ c.in_ok-push.ensures.items c.loop-share.invariant.own c.in_ok-open.ensures;
}
