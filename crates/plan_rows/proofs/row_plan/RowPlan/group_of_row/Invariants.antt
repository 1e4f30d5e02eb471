use Rattle.std.proofs.Common.{◌-◌}
use Rattle.plan_rows.proofs.RowLemmas.{IsBetween}
use Rattle.plan_rows.proofs.row_plan.RowPlan.group_of_row.Given as goal

abbrev pub invariant-loop-high : goal.invariant-loop-high
invariant-loop-high l = IsBetween l.self l.n l.low l.high

abbrev pub decreases-loop-high : goal.decreases-loop-high
decreases-loop-high l = l.high - l.low
