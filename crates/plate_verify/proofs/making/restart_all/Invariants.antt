use Rattle.plate_verify.specs.Making.{HaveSides}
use Rattle.tif_plate.specs.declared.sides.Sides.{Sides}
use Rattle.plate_verify.proofs.MakeLemmas.{RestartedTo}
use Rattle.plate_verify.proofs.making.restart_all.Given as goal

abbrev pub invariant-loop-i : goal.invariant-loop-i
invariant-loop-i l = (sides : Sides) → HaveSides sides l.fn.plates → RestartedTo sides l.i l.plates
