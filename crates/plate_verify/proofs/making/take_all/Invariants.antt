use Rattle.std.proofs.Common.{◌≡◌, List, [], ℕ, length}
use Rattle.plate_verify.specs.Making.{AreFed, HaveRows}
use Rattle.tif_plate.specs.declared.sides.Sides.{Sides}
use Rattle.plate_verify.proofs.MakeLemmas.{TookRows}
use Rattle.plate_verify.proofs.making.take_all.Given as goal

abbrev pub invariant-loop-y : goal.invariant-loop-y
invariant-loop-y g l =
    (sides : Sides) (next : List (List ℕ)) → HaveRows sides (λ i. []) l.fn.plates → AreFed l.fn.plates (g.F.RowFeed.left l.fn.feed) (length l.fn.frame) sides next → l.height ≡ sides.height
    → TookRows (length l.fn.plates) sides next l._y l.plates (g.F.RowFeed.left l.feed)
