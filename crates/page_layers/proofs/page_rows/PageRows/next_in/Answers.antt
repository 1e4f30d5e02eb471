use Rattle.std.proofs.Common.{◌≡◌, ◌<◌, ℕ, List, subst, ap, ◌∙◌, arith}
use Rattle.std.specs.List.{fold}
use Rattle.page_layers.specs.Inks.{inks_at, only, painted_inks}
use Rattle.page_layers.specs.Layer.{ink_at, painted}
use Rattle.page_layers.specs.Page.{Page}
use Rattle.page_layers.specs.Rows.{LayerState, layers_of}
use Rattle.page_layers.proofs.page_rows.PageRows.next_in.Goals as goal

pub returns-clause-inks : goal.returns-clause-inks
returns-clause-inks c =
    let P : Page → Type 0 = λ page. (x : ℕ) → x < c.args.self.now.width → only (painted_inks c.args.inks) (inks_at c.paint_layers.new.into x) ≡ only (painted_inks c.args.inks) (ink_at page.layers x page.next) in
    subst P c.self.view_is
    (λ x within.
    c.paint_layers.ensures.inks x (omega (arith, c.requires.width.cyan, c.clear_under.ensures.width.cyan))
    ∙ ap (λ (states : List LayerState). only (painted_inks c.args.inks) (fold (λ under layer. painted layer x c.self.inside.next under) (inks_at c.clear_under.new.into x) (layers_of states))) (c.deref_mut.ensures.value)
    ∙ rw c.deref.ensures.value at (c.clear_under.ensures.under x (omega (arith, c.requires.width.cyan))))
