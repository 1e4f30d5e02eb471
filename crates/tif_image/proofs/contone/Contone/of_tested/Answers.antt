use Rattle.tif_image.specs.declared.usage.Usage.TheVariants.{Contone}
use Rattle.tif_image.proofs.Passes.{strips_pass}
use Rattle.tif_image.proofs.contone.Contone.of_tested.Goals as goal

pub strips-requires-clause-passed : goal.strips-requires-clause-passed
strips-requires-clause-passed c = strips_pass Contone c.args.bytes.now c.args.found.now.shape c.requires.passed
