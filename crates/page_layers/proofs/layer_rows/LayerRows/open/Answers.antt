use Rattle.std.proofs.Common.{◌≡◌, length, ap, ◌∙◌, sym, arith}
use Rattle.std.proofs.lemmas.List.{length-replicate}
use Rattle.page_layers.specs.Rows.{span_of}
use Rattle.page_layers.proofs.Layers.{IsLayerRows-open, inks_from}
use Rattle.page_layers.proofs.layer_rows.LayerRows.open.Goals as goal

pub invariant_of-result : goal.invariant_of-result
invariant_of-result c =
    let span : c.span_of-span.result ≡ span_of c.args.width c.args.layer = c.span_of-span.ensures in
    IsLayerRows-open c.args.layer c.args.width c.columns_of-columns.result c.painting_of-painting.result c.new-image.result c.open_mask-mask.result c.refill.new.self _
    c.refill-2.new.bytes.items c.refill-3.new.bytes.items _ _ c.requires.layer c.painting_of-painting.ensures c.shape-shape.ensures.width c.shape-shape.ensures.length c.requires.width
    (c.new-image.ensures ∙ c.rows.ensures) c.open_mask-mask.ensures
    (inks_from _ _ _ _ 0 c.refill.ensures.cyan span c.fixed_inks.ensures)
    (inks_from _ _ _ _ 1 c.refill.ensures.magenta span c.fixed_inks.ensures)
    (inks_from _ _ _ _ 2 c.refill.ensures.yellow span c.fixed_inks.ensures)
    (inks_from _ _ _ _ 3 c.refill.ensures.black span c.fixed_inks.ensures)
    (inks_from _ _ _ _ 4 c.refill.ensures.spot span c.fixed_inks.ensures)
    (ap length c.refill-2.ensures.items ∙ length-replicate c.columns_of-columns.result 0) (rw (sym span) c.columns_of-columns.ensures.enough) c.columns_of-columns.ensures.within
    (rw span at c.refill-3.ensures.items) (omega (arith, c.refill-2.ensures.capacity)) (omega (arith, c.refill-3.ensures.capacity))
