use Rattle.std.proofs.Common.{arith, sym, subst}
use Rattle.std.proofs.lemmas.List.{length-take}
use Rattle.tif_make.specs.Fields.{AreFields}
use Rattle.tif_make.proofs.ImageFields.{code_fields, code_fields-length, fields_are, fronts_same}
use Rattle.tif_make.proofs.image.put_fields.Goals as goal

pub slice_bounds-fields-end : goal.slice_bounds-fields-end
slice_bounds-fields-end c = omega (arith, code_fields-length _ _ _ _ c.all_fields-fields.ensures)

pub slice_bounds-put_front-end : goal.slice_bounds-put_front-end
slice_bounds-put_front-end c =
    omega (arith, length-take c.field_count.result c.all_fields-fields.result, code_fields-length _ _ _ _ c.all_fields-fields.ensures)

pub put_front-requires : goal.put_front-requires
put_front-requires c =
    subst AreFields (sym (code_fields _ _ _ _ c.field_count.result c.all_fields-fields.ensures))
    (fields_are c.args.form.now c.args.places.now c.args.counts.now c.field_count.result c.requires.form c.requires.places c.requires.counts
    c.field_count.ensures.within)

pub returns : goal.returns
returns c =
    fronts_same c.args.form.now c.args.places.now c.args.counts.now c.all_fields-fields.result c.field_count.result _ _ _
    c.all_fields-fields.ensures c.field_count.ensures.count c.put_front.ensures
