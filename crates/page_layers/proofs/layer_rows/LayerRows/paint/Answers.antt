use Rattle.std.proofs.Common.{◌≡◌, ◌+◌, ◌-◌, ◌<◌, ℕ, true, length, subst, ap, sym, ◌∙◌, arith}
use Rattle.page_layers.specs.declared.layer.Layer.{Layer}
use Rattle.page_layers.specs.Inks.{inks_at, only, painted_inks}
use Rattle.page_layers.specs.Layer.{covers_row, painted, row_at}
use Rattle.page_layers.specs.Rows.{IsExpanded, LayerState, span_of}
use Rattle.page_layers.proofs.Paints.{painted-row, shown_row}
use Rattle.page_layers.proofs.layer_rows.LayerRows.paint.Goals as goal

pub returns-clause-inks : goal.returns-clause-inks
returns-clause-inks c =
    let value = c.self.view_is ∙ c.stand_behind.ensures ∙ ap (λ (state : LayerState). record state { read = c.row_at-row.result + 1 }) c.turn_to.ensures.state in
    let inks : c.self.inside.inks ≡ c.args.inks = ap (λ (state : LayerState). state.inks) value in
    let layer : c.self.inside.layer ≡ c.args.self.now.layer = ap (λ (state : LayerState). state.layer) value in
    let width : c.self.inside.width ≡ c.args.self.now.width = ap (λ (state : LayerState). state.width) value in
    let next : c.self.inside.image.next ≡ c.row_at-row.result + 1 = ap (λ (state : LayerState). state.read) value in
    let shows = sym c.shows.ensures ∙ c.if-not-shows.false in
    let covers : covers_row c.self.inside.layer c.args.y ≡ true = ap (λ l. covers_row l c.args.y) layer ∙ shown_row c.args.self.now.width c.args.self.now.layer c.args.y shows in
    let row : c.self.inside.image.next - 1 ≡ row_at c.self.inside.layer c.args.y = omega (arith, c.row_at-row.ensures, ap (λ l. row_at l c.args.y) layer) in
    let expanded : IsExpanded c.args.inks c.self.inside.layer (row_at c.self.inside.layer c.args.y) (span_of c.self.inside.width c.self.inside.layer) c.self.inside.paint c.deref.result.now =
    rw (c.deref.ensures.value, sym row, sym inks) (c.self.invariant.expanded (omega arith)) in
    let long : length c.deref.result.now ≡ span_of c.self.inside.width c.self.inside.layer = ap length c.deref.ensures.value ∙ c.self.invariant.admitted_long in
    let P : Layer → Type 0 = λ l. (x : ℕ) → x < c.args.self.now.width → only (painted_inks c.args.inks) (inks_at c.lay_paint.new.into x) ≡ only (painted_inks c.args.inks) (painted l x c.args.y (inks_at c.args.into.now x)) in
    subst P layer
    (λ x within. painted-row c.args.inks c.self.inside.layer c.self.inside.width c.args.y c.self.inside.painting c.self.inside.paint c.deref.result.now c.args.into.now c.lay_paint.new.into c.self.invariant.painting_is long covers expanded
    c.lay_paint.ensures.cyan c.lay_paint.ensures.magenta c.lay_paint.ensures.yellow c.lay_paint.ensures.black c.lay_paint.ensures.spot x (omega arith))
