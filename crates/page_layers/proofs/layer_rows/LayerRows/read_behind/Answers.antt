use Rattle.std.proofs.Common.{◌≡◌, ◌+◌, ◌<◌, ◌≤◌, length, replicate, sym, ap, subst, ◌∙◌, arith}
use Rattle.tif_strips.specs.Strips.{row_length}
use Rattle.page_layers.specs.Inks.{HasWidth}
use Rattle.page_layers.specs.Reader.{Holds}
use Rattle.page_layers.specs.Rows.{LayerState, with_fixed}
use Rattle.page_layers.proofs.Layers.{IsLayerRows-next, IsOf-row, crop_rows, mask_columns, mask_most, mask_row, most_span, rows_before, scaled_below, span_columns}
use Rattle.page_layers.proofs.Slices.{written}
use Rattle.page_layers.proofs.layer_rows.LayerRows.read_behind.Goals as goal

pub reach_mask-requires-clause-columns : goal.reach_mask-requires-clause-columns
reach_mask-requires-clause-columns c = λ reader there.
    mask_columns c.self.inside.layer c.self.inside.image.next c.self.inside.mask reader c.self.invariant.mask_is c.self.invariant.layer_is there

pub reach_mask-requires-clause-long : goal.reach_mask-requires-clause-long
reach_mask-requires-clause-long c = λ reader there.
    omega (
      arith,
      c.deref_mut-2.ensures.len,
      c.room.invariant.1,
      mask_most c.self.inside.layer c.self.inside.image.next c.self.inside.mask reader c.self.invariant.mask_is c.self.invariant.layer_is c.self.invariant.sides.0 there,
    )

pub invariant_of-self : goal.invariant_of-self
invariant_of-self c =
    IsLayerRows-next c.self.inside.layer c.self.inside.width c.args.row _ _ c.self.inside.painting c.self.inside.image c.read_row.new.image c.self.inside.mask c.reach_mask.new.mask c.self.inside.paint c.read_row.new.paint
    c.self.inside.inks c.self.inside.marks.items _ c.admit_row.new.marks c.self.inside.admitted.items _ c.admit_row.new.admitted _ _ c.self.invariant c.read_row.ensures.image c.reach_mask.ensures.mask
    c.read_row.ensures.wide c.read_row.ensures.fixed c.read_row.ensures.paint
    c.deref_mut-3.ensures.value c.deref_mut-3.ensures.len c.admit_row.auto.marks c.deref_mut-4.ensures.value c.deref_mut-4.ensures.len c.admit_row.auto.admitted c.admit_row.ensures.bare c.admit_row.ensures.admitted

pub read_row-requires : goal.read_row-requires
read_row-requires c =
    let is = c.self.invariant in
    let layer = c.self.inside.layer in
    let below = subst (λ (state : LayerState). c.args.row < state.layer.crop.y + state.layer.crop.height) (sym c.self.view_is) c.requires.within in
    let rows = crop_rows layer c.self.inside.image c.args.row is.layer_is is.image_is is.sides.0 is.sides.1 below in
    record {
      image = is.image_is;
      before =
          rows_before c.self.inside.image.next c.args.row c.read.result c.read.ensures
          (subst (λ (state : LayerState). state.read ≤ c.args.row + 1) (sym c.self.view_is) c.requires.before) c.if-read-row.false;
      small = rows.0;
      row = rows.1;
      columns = rows.2;
      long = subst (λ n. row_length c.self.inside.image.shape ≤ n) (sym (ap length c.deref_mut.ensures.value ∙ c.room.invariant.0)) rows.3;
      scale = (is.layer_is.scaled, is.layer_is.scale);
      wide = subst (HasWidth c.self.inside.paint) (sym is.wide.cyan) is.wide;
      narrow = subst (λ n. n ≤ 65535) (sym is.wide.cyan) (most_span layer c.self.inside.width is.sides.2);
      within = span_columns layer c.self.inside.width (length c.self.inside.paint.cyan) is.wide.cyan;
      fixed = subst (λ n. c.self.inside.paint ≡ with_fixed layer.art n c.self.inside.paint) (sym is.wide.cyan) is.fixed;
    }

pub admit_row-requires : goal.admit_row-requires
admit_row-requires c =
    let is = c.self.invariant in
    let layer = c.self.inside.layer in
    let admitted = c.deref_mut-4.ensures.value in
    record {
      image = IsOf-row layer.art c.self.inside.image c.read_row.new.image _ is.image_is c.read_row.ensures.image;
      mask = mask_row layer c.self.inside.image c.read_row.new.image c.self.inside.mask c.reach_mask.new.mask _ is.mask_is c.read_row.ensures.image c.reach_mask.ensures.mask;
      image_part = λ bare.
          subst (Holds c.read_row.new.image layer.crop) (sym (c.deref.ensures.value ∙ written _ _ _ _ c.deref_mut.ensures.len c.read_row.auto.room)) (c.read_row.ensures.part bare);
      mask_part = λ reader there.
          subst (Holds reader layer.crop) (sym (c.deref-2.ensures.value ∙ written _ _ _ _ c.deref_mut-2.ensures.len c.reach_mask.ensures.room)) (c.reach_mask.ensures.part reader there);
      layer = is.layer_is;
      columns = subst (λ list. length list ≤ layer.crop.width) (sym c.deref_mut-3.ensures.value) is.columns;
      enough = λ n. scaled_below layer.scale n _ _ _ _ _ is.marks_long is.admitted_long c.deref_mut-3.ensures.value admitted;
      small = subst (λ n. n ≤ 65535) (sym (ap length admitted ∙ is.admitted_long)) (most_span layer c.self.inside.width is.sides.2);
      bare = λ bare. admitted ∙ is.bare bare ∙ ap (λ n. replicate n 255) (sym (ap length admitted ∙ is.admitted_long));
    }
