use Rattle.std.proofs.Common.{List, ℕ, length, take}
use Rattle.std.specs.List.{flat_map, range_with_len}
use Rattle.plate_verify.specs.Verifying.{AreRight, IsMade, plates_at, shelf_told}
use Rattle.plate_verify.proofs.inks.verify_at_sites.Given as goal

abbrev pub invariant-loop-site : goal.invariant-loop-site
invariant-loop-site g l =
    (rows : List (List ℕ)) → IsMade l.edition.plan.now rows (l.group, l.ink) l.made
    → AreRight l.edition.plan.now rows l.edition.out.now (flat_map (plates_at (l.group, l.ink)) (take l.site (range_with_len 0 (length l.edition.plan.now.sites)))) (shelf_told g.H.Shelf l.initial.shelf) (shelf_told g.H.Shelf l.shelf)
