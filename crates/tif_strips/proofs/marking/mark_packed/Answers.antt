use Rattle.std.proofs.Common.{◌<◌, ◌≢◌, length, arith, get_or-set_other, get_or-set_same, below_more}
use Rattle.tif_strips.proofs.marking.mark_packed.Goals as goal

pub loop-mark-preserved : goal.loop-mark-preserved
loop-mark-preserved c =
    let both = c.in-Some.ensures.next c.args.stored.now c.args.n c.loop-mark.mark-index c.loop-mark.invariant.reached in
    let lt : c.loop-mark.mark-index < length c.loop-mark.marks = omega arith in
    record {
      reached = both.0;
      each =
          below_more _ _
          (λ k h. let ne : k ≢ c.loop-mark.mark-index = omega arith in rw get_or-set_other (c.loop-mark.invariant.each k h))
          (rw get_or-set_same both.1);
    }
