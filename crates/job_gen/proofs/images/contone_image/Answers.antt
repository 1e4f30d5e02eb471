use Rattle.std.proofs.Common.{◌∙◌}
use Rattle.job_gen.proofs.JobImages.{contone-has, contone-made}
use Rattle.job_gen.proofs.images.contone_image.Goals as goal

pub make_image-requires-clause-rows : goal.make_image-requires-clause-rows
make_image-requires-clause-rows c = contone-has c.args.n c.args.f c.contone_form-form.result c.as_slice.result.now c.contone_form-form.ensures.form (c.as_slice.ensures.value ∙ c.in_ok-rows.ensures)

pub returns : goal.returns
returns c =
    contone-made c.args.n c.args.f c.contone_form-form.result c.as_slice.result.now c.contone_form-form.ensures.form (c.as_slice.ensures.value ∙ c.in_ok-rows.ensures)
    c.make_image.result c.make_image.ensures
