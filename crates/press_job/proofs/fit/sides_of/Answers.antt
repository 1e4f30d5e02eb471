use Rattle.std.proofs.Common.{ap, ◌∙◌}
use Rattle.tif_strips.specs.declared.shape.Shape.{Shape}
use Rattle.press_job.specs.Layers.{bytes_at}
use Rattle.press_job.proofs.FitLemmas.{shape_sides}
use Rattle.press_job.proofs.fit.sides_of.Goals as goal

pub returns-clause-width : goal.returns-clause-width
returns-clause-width c =
    ap {A = Shape} (λ s. s.width) c.shape-shape.ensures ∙ (shape_sides c.args.usage (bytes_at c.args.files.now.bytes c.args.file) c.found.result.now.shape c.found.ensures.passed).width

pub returns-clause-length : goal.returns-clause-length
returns-clause-length c =
    ap {A = Shape} (λ s. s.length) c.shape-shape.ensures ∙ (shape_sides c.args.usage (bytes_at c.args.files.now.bytes c.args.file) c.found.result.now.shape c.found.ensures.passed).length
