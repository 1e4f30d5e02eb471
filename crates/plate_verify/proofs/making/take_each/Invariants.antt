use Rattle.std.proofs.Common.{List, ℕ, length}
use Rattle.plate_verify.specs.Making.{EachTakes}
use Rattle.tif_plate.specs.declared.sides.Sides.{Sides}
use Rattle.plate_verify.proofs.MakeLemmas.{TookUpTo}
use Rattle.plate_verify.proofs.making.take_each.Given as goal

abbrev pub invariant-loop-i : goal.invariant-loop-i
invariant-loop-i g l =
    (sides : Sides) (rows : ℕ → List (List ℕ)) (next : List (List ℕ)) → EachTakes l.fn.plates (g.F.RowFeed.left l.fn.feed) (length l.fn.frame) sides rows next
    → TookUpTo sides rows next l.i l.plates (g.F.RowFeed.left l.feed)
