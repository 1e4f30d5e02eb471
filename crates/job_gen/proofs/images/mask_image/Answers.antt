use Rattle.std.proofs.Common.{◌∙◌}
use Rattle.job_gen.proofs.JobImages.{mask-has, mask-made}
use Rattle.job_gen.proofs.images.mask_image.Goals as goal

pub make_image-requires-clause-rows : goal.make_image-requires-clause-rows
make_image-requires-clause-rows c = mask-has c.args.n c.size.result c.mask_form-form.result c.as_slice.result.now c.mask_form-form.ensures.form c.size.ensures.times (c.as_slice.ensures.value ∙ c.in_ok-rows.ensures)

pub returns : goal.returns
returns c = mask-made c.args.n c.size.result c.mask_form-form.result c.as_slice.result.now c.mask_form-form.ensures.form c.size.ensures.times (c.as_slice.ensures.value ∙ c.in_ok-rows.ensures) c.make_image.result c.make_image.ensures
