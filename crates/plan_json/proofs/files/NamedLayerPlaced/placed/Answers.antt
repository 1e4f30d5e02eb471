use Rattle.plan_json.proofs.Mentions.{layer-placed}
use Rattle.plan_json.proofs.files.NamedLayerPlaced.placed.Goals as goal

pub returns : goal.returns
returns c =
    let files = rw c.as_str.ensures at c.in_ok-file.ensures.files in
    let index = rw c.as_str.ensures at c.in_ok-file.ensures.index in
    layer-placed _ _ _ c.args.self.now _ _ files index c.in_ok-mask.ensures
