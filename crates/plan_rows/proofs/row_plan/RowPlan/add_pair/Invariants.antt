use Rattle.std.proofs.Common.{◌≡◌, ◌≤◌, ◌+◌, length}
use Rattle.plan_rows.specs.Groups.{groups_among}
use Rattle.plan_rows.specs.Rows.{added}
use Rattle.plan_rows.proofs.row_plan.RowPlan.add_pair.Given as goal

abbrev pub invariant-loop-site : goal.invariant-loop-site
invariant-loop-site l = record {
  so_far : l.self ≡ added l.initial.self (groups_among l.fn.plan l.fn.section l.fn.pair l.pages l.site);
  count : length l.self.groups ≤ length l.initial.self.groups + l.site;
}
