use Rattle.std.proofs.Common.{length, refl, ◌∙◌}
use Rattle.replate.proofs.classes.sought.Goals as goal

pub returns : goal.returns
returns c = λ files knows. c.copied.ensures ∙ c.get.ensures.value ∙ knows.each (length c.args.file.now, c.args.file) refl
