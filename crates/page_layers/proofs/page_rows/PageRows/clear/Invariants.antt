use Rattle.std.proofs.Common.{◌≡◌, ◌≤◌, ◌+◌, length}
use Rattle.std.specs.Vec.{vec_capacity}
use Rattle.page_layers.proofs.page_rows.PageRows.clear.Given as goal

abbrev pub invariant-loop-self : goal.invariant-loop-self
invariant-loop-self l = record {
  width : l.self-inside.width ≡ l.initial.self-inside.width;
  height : l.self-inside.height ≡ l.initial.self-inside.height;
  room : length l.self-inside.layers.items + length l.self-inside.rooms.items ≡ length l.initial.self-inside.layers.items + length l.initial.self-inside.rooms.items;
  layers_fit : length l.self-inside.layers.items + length l.self-inside.rooms.items ≤ vec_capacity l.self-inside.layers;
  rooms_fit : length l.self-inside.layers.items + length l.self-inside.rooms.items ≤ vec_capacity l.self-inside.rooms;
}

abbrev pub decreases-loop-self : goal.decreases-loop-self
decreases-loop-self l = length l.self-inside.layers.items
