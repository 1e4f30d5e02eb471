use Rattle.std.proofs.Common.{◌≡◌, ◌+◌, ◌≤◌, All, length}
use Rattle.std.specs.Vec.Iter.{into_iter_items}
use Rattle.page_layers.specs.Layer.{IsLayer}
use Rattle.page_tests.proofs.layers.put_all.Given as goal

abbrev pub invariant-loop-layer : goal.invariant-loop-layer
invariant-loop-layer l = record {
  to_come : All IsLayer (into_iter_items l.layer-iterator);
  top : l.page.next ≡ 0;
  width : l.page.width ≡ l.fn.page.width;
  room : length l.page.layers + length (into_iter_items l.layer-iterator) ≤ l.page.room;
}
