use Rattle.std.proofs.Common.{false, None, [], List, map, ap, sym, subst, ◌∙◌, arith}
use Rattle.std.proofs.lemmas.List.{take_all}
use Rattle.page_layers.specs.declared.layer.Layer.{Layer}
use Rattle.page_layers.specs.Layer.{IsLayer}
use Rattle.plan_parts.specs.Data.{LayerData}
use Rattle.plan_json.specs.Data.{PlanData}
use Rattle.press_job.specs.Layers.{layer_of, layers_of, planned_layers}
use Rattle.press_job.proofs.FindingLemmas.{planned_found}
use Rattle.press_job.proofs.FitLemmas.{layer_fits, planned_pass}
use Rattle.press_job.proofs.layers.put_layers.Goals as goal

pub open_layer-requires : goal.open_layer-requires
open_layer-requires c =
    planned_found c.args.job.now.plan c.plan.result.now c.tested_files-files.result.now c.args.page c.loop-layer.layer-index c.planned_on-planned.result.now _ c.tested_files-files.ensures.found c.plan.ensures.plan c.planned_on-planned.ensures (omega arith)

pub put-requires-clause-layer : goal.put-requires-clause-layer
put-requires-clause-layer c =
    let none : LayerData = record { line = false; file = 0; x = 0; y = 0; scale = 0; crop = None; mask = None; overprint = false; ink = [] } in
    let passes =
    planned_pass c.args.job.now.plan c.plan.result.now c.args.job.now.files c.tested_files-files.result.now.bytes c.args.page c.loop-layer.layer-index c.planned_on-planned.result.now none c.tested_files-files.ensures.planned c.tested_files-files.ensures.files
    c.plan.ensures.plan c.planned_on-planned.ensures (omega arith) in
    subst {A = Layer} IsLayer (sym c.open_layer.ensures) (layer_fits c.tested_files-files.result.now.bytes _ passes)

pub returns : goal.returns
unfolding layers_of
returns c =
    c.loop-layer.invariant
    ∙ ap {A = List LayerData} (λ planned. record c.args.rows.now { layers = map (layer_of c.args.job.now.files) planned; next = 0 })
    (take_all c.loop-layer.layer-index c.planned_on-planned.result.now (omega arith) ∙ c.planned_on-planned.ensures ∙ ap {A = PlanData} (λ p. planned_layers p c.args.page) c.plan.ensures.plan)
