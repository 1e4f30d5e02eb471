use Rattle.std.proofs.Common.{◌∙◌, ap, length}
use Rattle.std.proofs.lemmas.List.{length-map}
use Rattle.tif_make.proofs.Pieces.{length-begins, length-strips}
use Rattle.tif_make.proofs.image.make_image.Goals as goal

pub put_fields-requires-clause-places : goal.put_fields-requires-clause-places
put_fields-requires-clause-places c =
    ap length (c.as_slice.ensures.value ∙ c.in_ok-made.ensures.places_are) ∙ length-begins _ _ ∙ length-strips c.args.form.now c.args.rows.now

pub put_fields-requires-clause-counts : goal.put_fields-requires-clause-counts
put_fields-requires-clause-counts c =
    ap length (c.as_slice-2.ensures.value ∙ c.in_ok-made.ensures.counts_are) ∙ length-map _ _ ∙ length-strips c.args.form.now c.args.rows.now
