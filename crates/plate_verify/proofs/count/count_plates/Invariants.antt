use Rattle.std.proofs.Common.{◌≡◌, ◌≤◌, ◌*◌, length, take}
use Rattle.std.specs.List.{flat_map}
use Rattle.plan_rows.specs.Groups.{groups_of}
use Rattle.plate_verify.specs.Verifying.{group_sites}
use Rattle.plate_verify.proofs.count.count_plates.Given as goal

abbrev pub invariant-loop-index : goal.invariant-loop-index
invariant-loop-index l = record {
  counted : l.plates ≡ length (flat_map (group_sites l.plan) (take l.index (groups_of l.plan)));
  within : l.plates ≤ 80 * l.index;
}
