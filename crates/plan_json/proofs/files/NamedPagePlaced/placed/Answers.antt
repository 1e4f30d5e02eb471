use Rattle.plan_json.proofs.Mentions.{page-shown}
use Rattle.plan_json.proofs.files.NamedPagePlaced.placed.Goals as goal

pub returns : goal.returns
returns c =
    let all = rw c.as_slice.ensures.value at c.in_ok-layers.ensures in
    rw (c.in_ok-name.ensures, c.as_str.ensures) (page-shown _ _ _ _ _ _ _ _ c.self.view_is all)
