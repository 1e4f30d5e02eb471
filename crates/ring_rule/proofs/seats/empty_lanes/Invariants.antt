use Rattle.std.proofs.Common.{◌≡◌, length}
use Rattle.std.specs.List.{All}
use Rattle.ring_rule.specs.Empty.{IsEmptyLane}
use Rattle.ring_rule.proofs.seats.empty_lanes.Given as goal

abbrev pub invariant-loop-lane : goal.invariant-loop-lane
invariant-loop-lane l = record {
  count : length l.lanes.items ≡ l._lane;
  empty : All (IsEmptyLane l.row_len) l.lanes.items;
}
