use Rattle.std.proofs.Common.{◌<◌, length, arith}
use Rattle.plan_rows.specs.Groups.{groups_of}
use Rattle.plate_verify.proofs.CountLemmas.{plates-more, plates-all}
use Rattle.plate_verify.proofs.OrderLemmas.{number_is}
use Rattle.plate_verify.proofs.count.count_plates.Goals as goal

pub overflow_add-plates : goal.overflow_add-plates
overflow_add-plates c =
    omega (arith, c.loop-index.invariant.within, c.plate_count-plates.ensures.within, c.group_count-index-end.ensures.most)

pub loop-index-preserved : goal.loop-index-preserved
loop-index-preserved c =
    let below : c.loop-index.index < length (groups_of c.args.plan.now) = omega (arith, c.group_count-index-end.ensures.count, number_is c.args.plan.now c.args.rows.now c.requires) in
    let i = c.loop-index.invariant in
    record {
      counted = omega (arith, i.counted, c.plate_count-plates.ensures.count, plates-more c.args.plan.now c.loop-index.index c.group_at.result.now below c.group_at.ensures.is);
      within = omega (arith, i.within, c.plate_count-plates.ensures.within);
    }

pub returns : goal.returns
returns c = plates-all c.args.plan.now c.loop-index.index c.loop-index.plates c.loop-index.invariant.counted (omega (arith, c.group_count-index-end.ensures.count, number_is c.args.plan.now c.args.rows.now c.requires))
