use Rattle.std.proofs.Common.{All, List, [], ◌∷◌, subst, sym}
use Rattle.std.proofs.lemmas.List.Elements.{All-append, All-cons, All-nil}
use Rattle.page_layers.specs.Layer.{IsLayer}
use Rattle.page_layers.specs.declared.layer.Layer.{Layer}
use Rattle.page_tests.proofs.layers.put.Goals as goal

pub returns : goal.returns
returns g c =
    let items = rw c.expect.ensures at c.push.ensures.items in
    let L : List Layer → Type 0 = λ layers. All IsLayer layers in
    subst L (sym items)
    (All-append IsLayer c.args.layers.now.items (c.args.layer ∷ []) c.requires
    (All-cons IsLayer c.args.layer [] c.assert_layer.ensures (All-nil IsLayer)))
