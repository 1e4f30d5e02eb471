use Rattle.std.proofs.Common.{arith}
use Rattle.press_feed.specs.SideBand.{IsPartOf}
use Rattle.press_feed.proofs.BandLemmas.{pushed_all}
use Rattle.press_feed.proofs.side_band.open_parts.Goals as goal

pub loop-part-preserved : goal.loop-part-preserved
loop-part-preserved c = record {
  long = omega (arith, c.in_ok-push.ensures.len);
  own = pushed_all (IsPartOf c.args.job.now c.args.height) c.loop-part.parts.items _ _ c.in_ok-push.ensures.items c.loop-part.invariant.own c.in_ok-open.ensures;
}
