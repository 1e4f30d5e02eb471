use Rattle.std.proofs.Common.{◌≡◌, List, ℕ, length}
use Rattle.plan_rows.specs.Rows.{row_total}
use Rattle.plate_verify.specs.Verifying.{shelf_told}
use Rattle.plate_verify.specs.Verify.{FedFrom}
use Rattle.plate_verify.proofs.OrderLemmas.{VerifiedTo}
use Rattle.plate_verify.proofs.edition.verify_groups.Given as goal

abbrev pub invariant-loop-index : goal.invariant-loop-index
invariant-loop-index g l =
    (all : List (List ℕ)) → FedFrom l.edition.plan.now all 0 l.fn.plates (g.F.RowFeed.left l.fn.feed) (length l.fn.frame) → length all ≡ row_total l.rows
    → VerifiedTo l.edition.plan.now all l.edition.out.now l.index (shelf_told g.H.Shelf l.fn.shelf) (shelf_told g.H.Shelf l.shelf) l.plates (g.F.RowFeed.left l.feed) (length l.frame)
