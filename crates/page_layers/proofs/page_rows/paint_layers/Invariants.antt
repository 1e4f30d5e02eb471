use Rattle.std.proofs.Common.{◌≡◌, ℕ, ◌<◌, All, length, take}
use Rattle.std.specs.List.{fold}
use Rattle.page_layers.specs.Inks.{HasWidth, inks_at, only, painted_inks}
use Rattle.page_layers.specs.Layer.{painted}
use Rattle.page_layers.specs.Rows.{IsReady, layers_of}
use Rattle.page_layers.proofs.page_rows.paint_layers.Given as goal

abbrev pub invariant-loop-layer : goal.invariant-loop-layer
invariant-loop-layer l = record {
  width : HasWidth l.into (length l.fn.into.cyan);
  layers : layers_of l.layers ≡ layers_of l.fn.layers;
  ready : All (IsReady (length l.fn.into.cyan) l.y) l.layers;
  inks : (x : ℕ) → x < length l.fn.into.cyan → only (painted_inks l.inks) (inks_at l.into x)
      ≡ only (painted_inks l.inks) (fold (λ under layer. painted layer x l.y under) (inks_at l.fn.into x) (take l.layer-index (layers_of l.fn.layers)));
}
