use Rattle.tif_make.proofs.Growing.{Gathers}
use Rattle.tif_make.proofs.strips.ink_row.Given as goal

abbrev pub invariant-loop-x : goal.invariant-loop-x
invariant-loop-x l = Gathers l.ink l.row l.x l.samples.items
