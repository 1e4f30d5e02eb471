use Rattle.std.proofs.Common.{◌≡◌, ◌<◌, ◌≤◌, ◌+◌, ◌-◌, ◌/◌, ℕ, length, sym, subst, arith, rules}
use Rattle.plan_rows.proofs.RowLemmas.{IsBetween, total_is, first_at, between_all, between_upper, between_lower}
use Rattle.plan_rows.proofs.row_plan.RowPlan.group_of_row.Goals as goal

pub loop-high-init : goal.loop-high-init
loop-high-init c =
    let P : ℕ → Type 0 = λ high. IsBetween c.args.self.now c.args.n 0 high in
    let all : c.len-high.result ≡ length c.args.self.now.groups = search rules in
    subst P (sym all) (between_all c.args.self.now c.args.n (subst {A = ℕ} (λ n. c.args.n < n) (total_is c.args.self.now) c.requires))

pub loop-high-preserved-then-index-n : goal.loop-high-preserved-then-index-n
loop-high-preserved-then-index-n c =
    let middle = c.loop-high.low + (c.loop-high.high - c.loop-high.low) / 2 in
    let within = c.loop-high.invariant.within in
    let first = first_at c.self.inside.total _ c.args.self.now middle c.index.result.now c.self.invariant c.self.view_is c.index.ensures (omega arith) in
    between_upper c.args.self.now c.args.n c.loop-high.low c.loop-high.high middle c.loop-high.invariant (omega arith)
    (subst {A = ℕ} (λ n. n ≤ c.args.n) first c.if-index-n.true)

pub loop-high-preserved : goal.loop-high-preserved
loop-high-preserved c =
    let middle = c.loop-high.low + (c.loop-high.high - c.loop-high.low) / 2 in
    let within = c.loop-high.invariant.within in
    let first = first_at c.self.inside.total _ c.args.self.now middle c.index.result.now c.self.invariant c.self.view_is c.index.ensures (omega arith) in
    between_lower c.args.self.now c.args.n c.loop-high.low c.loop-high.high middle c.loop-high.invariant (omega arith) (omega arith)
    (subst {A = ℕ} (λ n. c.args.n < n) first c.if-index-n.false)
