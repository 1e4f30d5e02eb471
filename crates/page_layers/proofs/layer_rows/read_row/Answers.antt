use Rattle.std.proofs.Common.{◌≡◌, ◌-◌, ◌*◌, ◌<◌, ℕ, true, length, ap, sym, subst, ◌∙◌, inl, inr, arith}
use Rattle.std.proofs.lemmas.Bool.{cases_lt}
use Rattle.tif_strips.specs.Strips.{Cursor}
use Rattle.page_layers.specs.declared.layer.Art.{Art}
use Rattle.page_layers.specs.Inks.{Planes}
use Rattle.page_layers.specs.Rows.{bare_art, with_fixed}
use Rattle.page_layers.proofs.Layers.{planes_paint}
use Rattle.page_layers.proofs.layer_rows.read_row.Goals as goal

pub read_planes-requires-clause-columns : goal.read_planes-requires-clause-columns
read_planes-requires-clause-columns c =
    let width = c.args.crop.width in
    let span = length c.args.paint.now.cyan in
    elim (cases_lt width span) [
      | inl more ↦ absurd (omega (arith, c.requires.within width (subst (λ (scale : ℕ). scale * width < span) (sym c.if-scale-eq1.true) (omega arith))))
      | inr within ↦ omega (arith, within, c.requires.columns)
    ]

pub returns-clause-paint : goal.returns-clause-paint
returns-clause-paint c =
    let span = length c.args.paint.now.cyan in
    let row : c.read_planes.new.image.next - 1 ≡ c.args.y = omega (arith, ap (λ (cursor : Cursor). cursor.next) c.read_planes.ensures.image) in
    let bare : bare_art c.args.art.now ≡ true = ap bare_art c.in-Contone.is in
    let spot = c.read_planes.ensures.spot ∙ ap (λ (paint : Planes). paint.spot) c.requires.fixed ∙ ap (λ (art : Art). (with_fixed art span c.args.paint.now).spot) c.in-Contone.is in
    rw row
    (planes_paint c.args.inks c.args.art.now c.args.image.now c.args.crop.x c.args.scale c.args.y span c.args.paint.now c.read_planes.new.self c.requires.image bare c.if-scale-eq1.true c.requires.wide
    c.read_planes.ensures.cyan c.read_planes.ensures.magenta c.read_planes.ensures.yellow c.read_planes.ensures.black spot)
