use Rattle.std.proofs.Common.{◌≡◌, ◌≤◌, ◌*◌, length}
use Rattle.std.specs.List.{flat_map, range_with_len}
use Rattle.plan_rows.specs.Groups.{section_groups}
use Rattle.plan_rows.specs.Rows.{added}
use Rattle.plan_rows.proofs.row_plan.RowPlan.of.Given as goal

abbrev pub invariant-loop-section : goal.invariant-loop-section
invariant-loop-section l = record {
  so_far : l.rows ≡ added l.initial.rows (flat_map (section_groups l.plan) (range_with_len 0 l.section));
  count : length l.rows.groups ≤ 1024 * l.section;
}
