use Rattle.std.proofs.Common.{List, ℕ}
use Rattle.plate_verify.specs.Making.{AreFull}
use Rattle.tif_plate.specs.declared.sides.Sides.{Sides}
use Rattle.plate_verify.proofs.MakeLemmas.{FinishedTo}
use Rattle.plate_verify.proofs.making.finish_all.Given as goal

abbrev pub invariant-loop-i : goal.invariant-loop-i
invariant-loop-i l = (sides : Sides) (rows : ℕ → List (List ℕ)) → AreFull sides rows l.fn.plates → FinishedTo sides rows l.i l.plates
