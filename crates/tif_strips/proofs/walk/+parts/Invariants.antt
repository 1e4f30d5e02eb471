use Rattle.tif_strips.proofs.walk.+parts.Given as goal

abbrev pub decreases-test : goal.decreases-test
decreases-test l = l.count
