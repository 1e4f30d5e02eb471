use Rattle.std.proofs.Common.{◌≡◌, ◌≤◌, vec_len}
use Rattle.std.specs.Vec.{vec_capacity}
use Rattle.page_layers.proofs.page_rows.layer_rooms.Given as goal

abbrev pub invariant-loop-room : goal.invariant-loop-room
invariant-loop-room l = record {
  count : vec_len l.rooms ≡ l._room;
  places : l.count ≤ vec_capacity l.rooms;
}
