use Rattle.std.proofs.Common.{◌≡◌, ℕ, ◌<◌, length, get_or}
use Rattle.page_layers.specs.Rows.{LayerState, layers_of}
use Rattle.page_layers.proofs.page_rows.restart_layers.Given as goal

abbrev pub invariant-loop-layer : goal.invariant-loop-layer
invariant-loop-layer l = record {
  layers : layers_of l.layers ≡ layers_of l.fn.layers;
  widths : (k : ℕ) (d : LayerState) → k < length l.layers → (get_or l.layers k d).width ≡ (get_or l.fn.layers k d).width;
  done : (k : ℕ) (d : LayerState) → k < l.layer-index → (get_or l.layers k d).read ≡ 0;
}
