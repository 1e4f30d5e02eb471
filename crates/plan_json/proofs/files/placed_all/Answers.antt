use Rattle.std.proofs.lemmas.List.{take_all}
use Rattle.plan_json.proofs.Mentions.{place_next, place_none}
use Rattle.plan_json.proofs.files.placed_all.Goals as goal

pub loop-item-init : goal.loop-item-init
loop-item-init g c = rw c.new-all.ensures.items (place_none g.T.Placed.names g.T.Placed.placed_with _)

pub loop-item-preserved : goal.loop-item-preserved
loop-item-preserved g c =
    rw c.in_ok-push.ensures.items (place_next g.T.Placed.names g.T.Placed.placed_with _ _ _ _ _ _ c.loop-item.all.items _ c.loop-item-test.true c.item-item.is c.loop-item.invariant c.in_ok-one.ensures)

pub returns : goal.returns
returns g c = rw (take_all c.loop-item.item-index c.args.items.now c.loop-item-test.false) at c.loop-item.invariant
