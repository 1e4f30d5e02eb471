use Rattle.std.proofs.Common.{◌<◌, ◌∙◌, Some, ap, sym, subst, arith}
use Rattle.plan_rows.specs.declared.place.RowPlace.{RowPlace}
use Rattle.plan_rows.proofs.RowLemmas.{row_is_of}
use Rattle.plan_rows.proofs.row_plan.RowPlan.row_at.Goals as goal

pub overflow_sub-within : goal.overflow_sub-within
overflow_sub-within c =
    (row_is_of c.self.inside.total _ c.args.self.now c.args.n _ _ c.inks-inks.result.now c.self.invariant c.self.view_is c.group_of_row-index.ensures c.index-group.ensures c.inks-inks.ensures).begins

pub overflow_cast-y : goal.overflow_cast-y
overflow_cast-y c =
    let small = (row_is_of c.self.inside.total _ c.args.self.now c.args.n _ _ c.inks-inks.result.now c.self.invariant c.self.view_is c.group_of_row-index.ensures c.index-group.ensures c.inks-inks.ensures).small in
    omega arith

pub returns-clause-place : goal.returns-clause-place
returns-clause-place c =
    (row_is_of c.self.inside.total _ c.args.self.now c.args.n _ _ c.inks-inks.result.now c.self.invariant c.self.view_is c.group_of_row-index.ensures c.index-group.ensures c.inks-inks.ensures).place _
    ∙ ap {A = RowPlace} (λ p. Some p) (sym c.of.ensures)

pub returns-clause-y : goal.returns-clause-y
returns-clause-y c =
    let of = row_is_of c.self.inside.total _ c.args.self.now c.args.n _ _ c.inks-inks.result.now c.self.invariant c.self.view_is c.group_of_row-index.ensures c.index-group.ensures c.inks-inks.ensures in
    subst {A = RowPlace} (λ p. p.y < c.args.self.now.height) (sym c.of.ensures) of.y
