use Rattle.std.proofs.Common.{arith}
use Rattle.tif_plate.specs.Tail.{begin_of}
use Rattle.tif_plate.proofs.Puts.{Puts-number}
use Rattle.tif_plate.proofs.Cuts.{sum-take_more}
use Rattle.tif_plate.proofs.tail.put_offsets.Goals as goal

pub loop-count-preserved : goal.loop-count-preserved
loop-count-preserved c = record {
  behind = omega arith;
  place = omega (arith, c.loop-count.invariant.place, sum-take_more c.args.counts.now c.loop-count.count-index c.loop-count-test.true);
  put = Puts-number (begin_of c.args.counts.now) c.args.at c.loop-count.behind c.loop-count.count-index _ _ _ c.loop-count.invariant.put
      (rw c.loop-count.invariant.place at c.put_all-behind.ensures.put) c.loop-count.invariant.behind;
}
