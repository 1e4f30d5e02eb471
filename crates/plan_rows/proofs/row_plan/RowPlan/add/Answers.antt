use Rattle.std.proofs.Common.{arith}
use Rattle.plan_rows.proofs.AddLemmas.{add_fits, add_invariant, add_shows}
use Rattle.plan_rows.proofs.row_plan.RowPlan.add.Goals as goal

pub overflow_add-self : goal.overflow_add-self
overflow_add-self c = omega (arith, add_fits c.self.inside.total _ c.args.group c.inks.result.now c.self.invariant c.inks.ensures)

pub invariant_of-self-2 : goal.invariant_of-self-2
invariant_of-self-2 c =
    add_invariant c.self.inside.total _ c.args.self.now c.args.group c.inks.result.now c.push.new.self.items c.self.invariant c.self.view_is c.requires c.inks.ensures c.in_ok-push.ensures.items

pub returns : goal.returns
returns c = add_shows c.self.inside.total _ c.args.self.now c.args.group c.push.new.self.items c.self.invariant c.self.view_is c.in_ok-push.ensures.items
