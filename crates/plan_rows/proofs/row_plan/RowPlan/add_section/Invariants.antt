use Rattle.std.proofs.Common.{◌≡◌, ◌≤◌, ◌+◌, ◌-◌, ◌*◌, length}
use Rattle.std.specs.List.{flat_map, range_with_len}
use Rattle.plan_rows.specs.Groups.{pair_groups}
use Rattle.plan_rows.specs.Rows.{added}
use Rattle.plan_rows.proofs.row_plan.RowPlan.add_section.Given as goal

abbrev pub invariant-loop-pair : goal.invariant-loop-pair
invariant-loop-pair l = record {
  so_far : l.self ≡ added l.initial.self (flat_map (pair_groups l.fn.plan l.fn.section) (range_with_len 1 (l.pair - 1)));
  count : length l.self.groups ≤ length l.initial.self.groups + 16 * (l.pair - 1);
}
