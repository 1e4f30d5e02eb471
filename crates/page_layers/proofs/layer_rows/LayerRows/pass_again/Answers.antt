-- The paint is that of the row that was passed.
use Rattle.std.proofs.Common.{◌≡◌, IsTrue, true, rules}
use Rattle.page_layers.specs.Rows.{is_bare}
use Rattle.page_layers.proofs.Again.{IsLayerRows-again}
use Rattle.page_layers.proofs.layer_rows.LayerRows.pass_again.Goals as goal

pub invariant_of-self-2 : goal.invariant_of-self-2
invariant_of-self-2 c =
    let bare : is_bare c.self.inside.layer ≡ true = search rules in
    let passed : IsTrue c.pass_again.result = search rules in
    IsLayerRows-again c.self.inside.layer c.self.inside.width c.args.row c.self.inside.painting c.self.inside.image c.pass_again.new.self c.self.inside.mask c.self.inside.paint c.self.inside.inks
    c.self.inside.marks.items c.self.inside.admitted.items _ _ c.self.invariant bare (c.pass_again.ensures.at passed) (c.pass_again.ensures.again passed) (c.pass_again.ensures.reader passed)
