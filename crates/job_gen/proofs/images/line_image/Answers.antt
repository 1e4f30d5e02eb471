use Rattle.std.proofs.Common.{◌∙◌}
use Rattle.job_gen.proofs.JobImages.{line-has, line-made}
use Rattle.job_gen.proofs.images.line_image.Goals as goal

pub make_image-requires-clause-rows : goal.make_image-requires-clause-rows
make_image-requires-clause-rows c = line-has c.args.n c.size.result c.line_form-form.result c.as_slice.result.now c.line_form-form.ensures.form c.size.ensures.times (c.as_slice.ensures.value ∙ c.in_ok-rows.ensures)

pub returns : goal.returns
returns c = line-made c.args.n c.size.result c.line_form-form.result c.as_slice.result.now c.line_form-form.ensures.form c.size.ensures.times (c.as_slice.ensures.value ∙ c.in_ok-rows.ensures) c.make_image.result c.make_image.ensures
