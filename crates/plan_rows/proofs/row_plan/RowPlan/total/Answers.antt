use Rattle.std.proofs.Common.{◌≤◌, ◌∙◌, ℕ, ap, sym, subst}
use Rattle.plan_rows.specs.Rows.{RowPlanData, row_total}
use Rattle.plan_rows.proofs.RowLemmas.{total_is, total-most}
use Rattle.plan_rows.proofs.row_plan.RowPlan.total.Goals as goal

pub returns-clause-total : goal.returns-clause-total
returns-clause-total c =
    c.self.invariant.total ∙ ap {A = RowPlanData} (λ rows. row_total rows) c.self.view_is ∙ sym (total_is c.args.self.now)

pub returns-clause-most : goal.returns-clause-most
returns-clause-most c =
    subst {A = ℕ} (λ n. n ≤ 2684313600) (sym c.self.invariant.total) (total-most c.self.inside.total _ c.self.invariant)
