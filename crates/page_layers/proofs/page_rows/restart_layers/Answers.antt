use Rattle.std.proofs.Common.{◌<◌, length, ap, ◌∙◌, arith}
use Rattle.std.proofs.lemmas.List.{get_or_default}
use Rattle.page_layers.specs.Rows.{LayerState}
use Rattle.page_layers.proofs.Pages.{layers_of-set, reads-set, restarted, widths-set}
use Rattle.page_layers.proofs.page_rows.restart_layers.Goals as goal

pub loop-layer-preserved : goal.loop-layer-preserved
loop-layer-preserved c =
    let below : c.loop-layer.layer-index < length c.loop-layer.layers = omega arith in
    let is = get_or_default c.loop-layer.layers c.loop-layer.layer-index c.layer-item.result c.restart.new.self below in
    record {
      layers =
          layers_of-set c.loop-layer.layers c.loop-layer.layer-index c.restart.new.self below (ap (λ (s : LayerState). s.layer) c.restart.ensures ∙ ap (λ (s : LayerState). s.layer) is)
          ∙ c.loop-layer.invariant.layers;
      widths =
          widths-set c.loop-layer.layers _ c.loop-layer.layer-index c.restart.new.self below (ap (λ (s : LayerState). s.width) c.restart.ensures ∙ ap (λ (s : LayerState). s.width) is)
          c.loop-layer.invariant.widths;
      done = reads-set c.loop-layer.layers c.loop-layer.layer-index c.restart.new.self below (ap (λ (s : LayerState). s.read) c.restart.ensures) c.loop-layer.invariant.done;
    }

pub returns-clause-ready : goal.returns-clause-ready
returns-clause-ready c = λ width y ready.
    restarted c.loop-layer.layers _ width y c.loop-layer.invariant.layers c.loop-layer.invariant.widths (λ k d below. c.loop-layer.invariant.done k d (omega arith)) ready
