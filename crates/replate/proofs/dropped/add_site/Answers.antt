use Rattle.std.proofs.Common.{Bool, arith}
use Rattle.std.specs.Prelude.{filter}
use Rattle.std.proofs.lemmas.List.Elements.{filter-append}
use Rattle.replate.specs.Picks.{is_dropped}
use Rattle.replate.specs.Plates.{PlateAt}
use Rattle.replate.proofs.GroupLemmas.{count_is}
use Rattle.replate.proofs.PlateLemmas.{every_group, next_group}
use Rattle.replate.proofs.dropped.add_site.Goals as goal

pub loop-index-preserved : goal.loop-index-preserved
loop-index-preserved c =
    let test : PlateAt → Bool = is_dropped c.args.before.now.plan c.args.after.now.plan in
    let count = count_is c.args.before.now.plan c.rows.result.now c.group_count-index-end.result c.rows.ensures c.group_count-index-end.ensures.count in
    let low = c.loop-index-test.true in
    next_group (filter test) (filter-append test) c.args.before.now.plan c.args.site c.loop-index.index _ _ _
    (omega (arith, low, count)) c.loop-index.invariant c.in_ok-add_group.ensures

pub returns : goal.returns
returns c =
    let count = count_is c.args.before.now.plan c.rows.result.now c.group_count-index-end.result c.rows.ensures c.group_count-index-end.ensures.count in
    let past = c.loop-index-test.false in
    every_group (filter (is_dropped c.args.before.now.plan c.args.after.now.plan)) c.args.before.now.plan c.args.site
    c.loop-index.index _ _ (omega (arith, past, count)) c.loop-index.invariant
