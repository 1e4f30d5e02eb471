use Rattle.std.proofs.Common.{◌≡◌, ◌<◌, length, get_or, ap, ◌∙◌, arith}
use Rattle.std.proofs.lemmas.List.{get_or_default}
use Rattle.std.proofs.lemmas.List.Elements.{All-set}
use Rattle.page_layers.specs.Inks.{inks_at, only, painted_inks}
use Rattle.page_layers.specs.Rows.{IsReady, LayerState}
use Rattle.page_layers.proofs.Pages.{IsReady-after, layers_of-set, painted-all, painted-more}
use Rattle.page_layers.proofs.page_rows.paint_layers.Goals as goal

pub loop-layer-preserved : goal.loop-layer-preserved
loop-layer-preserved c =
    let i = c.loop-layer.layer-index in
    let width = length c.args.into.now.cyan in
    let below : i < length c.loop-layer.layers = omega arith in
    let item = get_or c.loop-layer.layers i c.layer-item.result in
    let is = get_or_default c.loop-layer.layers i c.layer-item.result c.paint.new.self below in
    let own : IsReady width c.args.y item = c.loop-layer.invariant.ready i c.layer-item.result below in
    let wide : item.width ≡ width = own.width_is in
    record {
      width = rw wide at c.paint.ensures.width;
      layers =
          layers_of-set c.loop-layer.layers i c.paint.new.self below (ap (λ (s : LayerState). s.layer) c.paint.ensures.layer ∙ ap (λ (s : LayerState). s.layer) is)
          ∙ c.loop-layer.invariant.layers;
      ready =
          All-set (IsReady width c.args.y) c.loop-layer.layers i c.paint.new.self
          (IsReady-after width c.args.y item c.paint.new.self own c.paint.ensures.layer c.paint.ensures.read) c.loop-layer.invariant.ready;
      inks = λ x within.
          painted-more (painted_inks c.args.inks) c.loop-layer.layers c.args.layers.now i x c.args.y (inks_at c.args.into.now x) (inks_at c.loop-layer.into x) (inks_at c.paint.new.into x) item below
          c.loop-layer.invariant.layers (get_or_default c.loop-layer.layers i c.layer-item.result item below) (c.loop-layer.invariant.inks x within) (c.paint.ensures.inks x (omega arith));
    }

pub returns-clause-inks : goal.returns-clause-inks
returns-clause-inks c = λ x within.
    c.loop-layer.invariant.inks x within
    ∙ ap (only (painted_inks c.args.inks)) (painted-all c.loop-layer.layers c.args.layers.now c.loop-layer.layer-index x c.args.y (inks_at c.args.into.now x) c.loop-layer.invariant.layers (omega arith))
