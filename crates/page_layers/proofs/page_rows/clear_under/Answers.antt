use Rattle.std.proofs.Common.{◌≡◌, ◌<◌, ◌≤◌, ◌⊎◌, length, subst, ap, inl, inr, ◌∙◌, arith}
use Rattle.std.proofs.lemmas.Bool.{cases_lt}
use Rattle.std.proofs.lemmas.Grind.{common_steps}
use Rattle.std.specs.List.{fold}
use Rattle.page_layers.specs.Inks.{blank, inks_at, only, painted_inks}
use Rattle.page_layers.specs.Layer.{ink_at, painted}
use Rattle.page_layers.specs.Rows.{LayerState, layers_of}
use Rattle.page_layers.proofs.Only.{only-clear, only-fold}
use Rattle.page_layers.proofs.Pages.{covered_inks, ink_at-is}
use Rattle.page_layers.proofs.page_rows.clear_under.Goals as goal

pub clear_beside-requires-2-clause-within : goal.clear_beside-requires-2-clause-within
clear_beside-requires-2-clause-within c =
    let first = c.index-layers-0.result in
    let states = c.args.layers.now in
    let some : 0 < length states = grind (arith, common_steps, c.is_empty.ensures, c.if-is_empty.false) in
    omega (arith, c.covered-from.ensures.within, ap (λ (state : LayerState). state.width) c.index-layers-0.is, (c.requires.ready 0 first some).width_is)

pub returns-clause-under : goal.returns-clause-under
returns-clause-under c = λ x within.
    let first = c.index-layers-0.result in
    let states = c.args.layers.now in
    let new = c.clear_beside-2.new.self in
    let some : 0 < length states = grind (arith, common_steps, c.is_empty.ensures, c.if-is_empty.false) in
    let P : LayerState → Type 0 = λ state. painted state.layer x c.args.y (inks_at new x) ≡ painted state.layer x c.args.y blank in
    let inks = painted_inks c.args.inks in
    let made = c.clear_beside-2.ensures in
    let clear : ((x < c.covered-from.result.0) ⊎ (c.covered-from.result.1 ≤ x)) → only inks (inks_at new x) ≡ only inks blank =
    only-clear c.args.inks c.covered-from.result.0 c.covered-from.result.1 x new made.cyan made.magenta made.yellow made.black made.spot in
    let bare : only inks (inks_at new x) ≡ only inks blank → only inks (fold (λ under layer. painted layer x c.args.y under) (inks_at new x) (layers_of states)) ≡ only inks (ink_at (layers_of states) x c.args.y) =
    λ is. only-fold inks (layers_of states) x c.args.y (inks_at new x) blank is ∙ ap (only inks) (ink_at-is (layers_of states) x c.args.y) in
    elim (cases_lt x c.covered-from.result.0) [
      | inl before ↦ bare (clear (inl before))
      | inr from ↦
          elim (cases_lt x c.covered-from.result.1) [
            | inl inside ↦ ap (only inks) (covered_inks states x c.args.y first new some (subst P c.index-layers-0.is (c.covered-from.ensures.covered x from inside new)))
            | inr behind ↦ bare (clear (inr behind))
          ]
    ]

pub returns-then-is_empty-clause-under : goal.returns-then-is_empty-clause-under
returns-then-is_empty-clause-under c = λ x within.
    let inks = painted_inks c.args.inks in
    let made = c.clear_beside.ensures in
    only-fold inks (layers_of c.args.layers.now) x c.args.y (inks_at c.clear_beside.new.self x) blank
    (only-clear c.args.inks 0 0 x c.clear_beside.new.self made.cyan made.magenta made.yellow made.black made.spot (inr (omega arith)))
    ∙ ap (only inks) (ink_at-is (layers_of c.args.layers.now) x c.args.y)
