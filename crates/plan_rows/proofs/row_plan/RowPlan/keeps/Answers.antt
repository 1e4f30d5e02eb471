use Rattle.std.proofs.Common.{◌∙◌, sym}
use Rattle.plan_rows.proofs.RowLemmas.{keeps_is}
use Rattle.plan_rows.proofs.row_plan.RowPlan.keeps.Goals as goal

pub returns : goal.returns
returns c =
    c.has_site.ensures
    ∙ sym (keeps_is c.self.inside.total _ c.args.self.now c.args.n _ c.args.site c.index.result.now c.self.invariant c.self.view_is c.group_of_row-index.ensures c.index.ensures)
