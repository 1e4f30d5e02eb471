use Rattle.std.proofs.Common.{◌≡◌, ◌-◌, ◌<◌, ℕ, All, IsTrue, subst, sym, ◌∙◌}
use Rattle.page_layers.specs.declared.layer.Layer.{Layer}
use Rattle.page_layers.specs.Layer.{ink_at}
use Rattle.page_layers.specs.Page.{Page, shows_alike}
use Rattle.page_layers.proofs.Pages.{alike_inks, all_alike}
use Rattle.page_layers.proofs.page_rows.PageRows.repeats.Goals as goal

pub returns-then-self-gt0-clause-equal : goal.returns-then-self-gt0-clause-equal
returns-then-self-gt0-clause-equal c = λ repeats.
    let alike = rw c.deref.ensures.value at (sym c.all_repeat.ensures ∙ repeats) in
    let P : Page → Type 0 = λ page. (x : ℕ) → x < page.width → ink_at page.layers x page.next ≡ ink_at page.layers x (page.next - 1) in
    subst P c.self.view_is (λ x within. alike_inks c.self.inside.layers.items c.self.inside.width x c.self.inside.next within c.self.invariant.ready alike)

pub returns-then-self-gt0-clause-told : goal.returns-then-self-gt0-clause-told
returns-then-self-gt0-clause-told c = λ some each.
    let P : Page → Type 0 = λ page. All {X = Layer} (λ layer. IsTrue (shows_alike page.width layer page.next)) page.layers in
    let alike = all_alike c.self.inside.layers.items c.self.inside.width c.self.inside.next c.self.invariant.ready (subst P (sym c.self.view_is) each) in
    c.all_repeat.ensures ∙ (rw c.deref.ensures.value alike)
