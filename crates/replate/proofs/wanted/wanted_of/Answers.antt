use Rattle.std.proofs.Common.{[], map, arith}
use Rattle.std.proofs.lemmas.List.{map-append}
use Rattle.replate.specs.Remade.{is_picked}
use Rattle.replate.proofs.GroupLemmas.{count_is}
use Rattle.replate.proofs.PlateLemmas.{every_group, next_group}
use Rattle.replate.proofs.wanted.wanted_of.Goals as goal

pub loop-index-preserved : goal.loop-index-preserved
loop-index-preserved c =
    let low = c.loop-index-test.true in
    let count = count_is c.args.after.now.plan c.rows.result.now c.group_count-index-end.result c.rows.ensures c.group_count-index-end.ensures.count in
    next_group (map (is_picked c.args.picks.now)) (map-append (is_picked c.args.picks.now)) c.args.after.now.plan
    c.args.site c.loop-index.index [] _ _ (omega (arith, low, count)) c.loop-index.invariant c.in_ok-add_group.ensures

pub returns-clause-bits : goal.returns-clause-bits
returns-clause-bits c =
    let past = c.loop-index-test.false in
    let count = count_is c.args.after.now.plan c.rows.result.now c.group_count-index-end.result c.rows.ensures c.group_count-index-end.ensures.count in
    every_group (map (is_picked c.args.picks.now)) c.args.after.now.plan c.args.site c.loop-index.index [] _
    (omega (arith, past, count)) c.loop-index.invariant
