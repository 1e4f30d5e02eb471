use Rattle.std.proofs.Common.{length, sym, ap, ◌∙◌}
use Rattle.tif_strips.specs.declared.shape.Shape.{Shape}
use Rattle.tif_strips.specs.Strips.{Cursor}
use Rattle.page_layers.specs.declared.layer.Art.{Art}
use Rattle.page_layers.specs.Inks.{Planes}
use Rattle.page_layers.specs.Layer.{bytes_of, shape_of}
use Rattle.page_layers.specs.Rows.{with_fixed}
use Rattle.page_layers.proofs.Layers.{contone_paint, part_of_four}
use Rattle.page_layers.proofs.layer_rows.paint_row.Goals as goal

pub returns-in-Contone-clause-paint : goal.returns-in-Contone-clause-paint
returns-in-Contone-clause-paint c =
    let shape = ap (λ (cursor : Cursor). cursor.shape) c.requires.image ∙ ap shape_of c.in-Contone.is in
    let bytes = ap (λ (cursor : Cursor). cursor.bytes) c.requires.image ∙ ap bytes_of c.in-Contone.is in
    let part = rw (shape, bytes) at c.part.ensures.part in
    let samples = sym (ap (λ (shape : Shape). shape.samples) c.shape-shape.ensures.shape) ∙ c.shape-shape.ensures.contone.samples in
    let four = part_of_four c.in-Contone.contone.shape c.in-Contone.contone.bytes _ c.args.crop.x c.args.crop.width samples in
    let spot = c.set_samples.ensures.spot ∙ ap (λ (paint : Planes). paint.spot) c.requires.fixed ∙ ap (λ (art : Art). (with_fixed art (length c.args.paint.now.cyan) c.args.paint.now).spot) c.in-Contone.is in
    rw c.in-Contone.is
    (contone_paint c.args.inks c.in-Contone.contone c.args.crop.x c.args.crop.width c.args.scale _ c.part.result.now c.args.paint.now c.set_samples.new.self (part ∙ four) c.requires.within c.requires.wide.magenta c.requires.wide.yellow c.requires.wide.black
    c.set_samples.ensures.cyan c.set_samples.ensures.magenta c.set_samples.ensures.yellow c.set_samples.ensures.black spot)
