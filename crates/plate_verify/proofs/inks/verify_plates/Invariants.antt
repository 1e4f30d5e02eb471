use Rattle.std.proofs.Common.{List, ℕ, take}
use Rattle.std.specs.List.{flat_map}
use Rattle.plan_rows.specs.Inks.{inks_of}
use Rattle.plate_verify.specs.Verifying.{AreRight, AreMade, shelf_told}
use Rattle.plate_verify.specs.Order.{plate_sites}
use Rattle.plate_verify.proofs.inks.verify_plates.Given as goal

abbrev pub invariant-loop-i : goal.invariant-loop-i
invariant-loop-i g l =
    (rows : List (List ℕ)) → AreMade l.edition.plan.now rows l.group l.made
    → AreRight l.edition.plan.now rows l.edition.out.now (flat_map (λ ink. plate_sites l.edition.plan.now (l.group, ink)) (take l.i (inks_of l.group))) (shelf_told g.H.Shelf l.initial.shelf) (shelf_told g.H.Shelf l.shelf)
