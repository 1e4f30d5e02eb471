use Rattle.std.proofs.Common.{◌≡◌, ◌<◌, ◌≤◌, ◌∙◌, ℕ, List, length, Ok, Err, Some, sym, ap, arith}
use Rattle.plan_rows.specs.Groups.{groups_of}
use Rattle.plan_rows.specs.Rows.{RowPlanData, row_total}
use Rattle.plate_verify.specs.Verify.{FedFrom, FedGroup}
use Rattle.plate_verify.specs.Verifying.{shelf_told}
use Rattle.plate_verify.proofs.OrderLemmas.{number_is, verified_to-none, fed_group, verified_to-more, verified_to-stop, verified_to-all}
use Rattle.plate_verify.proofs.edition.verify_groups.Given.{Over}
use Rattle.plate_verify.proofs.edition.verify_groups.Goals.{After-group_at-group}
use Rattle.plate_verify.proofs.edition.verify_groups.Goals as goal

pub loop-index-init : goal.loop-index-init
loop-index-init g c = λ all fed many. verified_to-none c.args.edition.now.plan.now all c.args.edition.now.out.now (shelf_told g.H.Shelf c.args.shelf.now) c.args.plates.now _ _ fed

-- the group that comes next has its rows in the feed
fed : (g : Over) (c : After-group_at-group g) (all : List (List ℕ)) → FedFrom c.args.edition.now.plan.now all 0 c.args.plates.now (g.F.RowFeed.left c.args.feed.now) (length c.args.frame.now) → length all ≡ row_total c.args.rows.now
    → FedGroup c.args.edition.now.plan.now all c.group_at-group.result.now c.loop-index.plates (g.F.RowFeed.left c.loop-index.feed) (length c.loop-index.frame)
fed g c all from many =
    let below : c.loop-index.index < length (groups_of c.args.edition.now.plan.now) = omega (arith, c.group_count-index-end.ensures.count, number_is c.args.edition.now.plan.now c.args.rows.now c.requires.rows) in
    fed_group c.args.edition.now.plan.now all c.args.edition.now.out.now c.loop-index.index c.group_at-group.result.now (shelf_told g.H.Shelf c.args.shelf.now) (shelf_told g.H.Shelf c.loop-index.shelf) c.loop-index.plates _ _
    c.group_at-group.ensures.plan (many ∙ ap {A = RowPlanData} row_total c.requires.rows) below c.group_at-group.ensures.is (c.loop-index.invariant all from many)

pub verify_group-requires-clause-fed : goal.verify_group-requires-clause-fed
verify_group-requires-clause-fed g c =
    let r = c.requires.fed in
    let at = (goal.at.verify_group-requires-clause-fed g c).After-group_at-group in
    record { rows = r.rows; fed = fed g at r.rows r.fed (r.all ∙ ap {A = RowPlanData} row_total (sym c.requires.rows)) }

pub loop-index-preserved : goal.loop-index-preserved
loop-index-preserved g c = λ all from many.
    let below : c.loop-index.index < length (groups_of c.args.edition.now.plan.now) = omega (arith, c.group_count-index-end.ensures.count, number_is c.args.edition.now.plan.now c.args.rows.now c.requires.rows) in
    let each = rw c.in-Ok-None.field-0-is at c.in-Ok-None.ensures in
    let own = fed g (goal.at.loop-index-preserved g c).After-group_at-group all from many in
    verified_to-more c.args.edition.now.plan.now all c.args.edition.now.out.now c.loop-index.index c.group_at-group.result.now (shelf_told g.H.Shelf c.args.shelf.now) (shelf_told g.H.Shelf c.loop-index.shelf) (shelf_told g.H.Shelf c.verify_group.new.shelf)
    c.loop-index.plates c.verify_group.new.plates _ _ _ _ c.group_at-group.ensures.plan below c.group_at-group.ensures.is (c.loop-index.invariant all from many) (each.verified all own) (each.fed all own)

pub returns-in-Ok-Some : goal.returns-in-Ok-Some
returns-in-Ok-Some g c = λ all from many.
    let below : c.loop-index.index < length (groups_of c.args.edition.now.plan.now) = omega (arith, c.group_count-index-end.ensures.count, number_is c.args.edition.now.plan.now c.args.rows.now c.requires.rows) in
    let each = rw c.in-Ok-Some.field-0-is at c.in-Ok-Some.ensures in
    verified_to-stop c.args.edition.now.plan.now all c.args.edition.now.out.now c.loop-index.index c.group_at-group.result.now (shelf_told g.H.Shelf c.args.shelf.now) (shelf_told g.H.Shelf c.loop-index.shelf) (shelf_told g.H.Shelf c.verify_group.new.shelf) c.loop-index.plates _ _
    (Ok (Some c.in-Ok-Some.found)) below c.group_at-group.ensures.is (c.loop-index.invariant all from many) (each.verified all (fed g (goal.at.returns-in-Ok-Some g c).After-group_at-group all from many)) tt

pub returns-in-Err : goal.returns-in-Err
returns-in-Err g c = λ all from many.
    let below : c.loop-index.index < length (groups_of c.args.edition.now.plan.now) = omega (arith, c.group_count-index-end.ensures.count, number_is c.args.edition.now.plan.now c.args.rows.now c.requires.rows) in
    verified_to-stop c.args.edition.now.plan.now all c.args.edition.now.out.now c.loop-index.index c.group_at-group.result.now (shelf_told g.H.Shelf c.args.shelf.now) (shelf_told g.H.Shelf c.loop-index.shelf) (shelf_told g.H.Shelf c.verify_group.new.shelf) c.loop-index.plates _ _
    (Err c.in-Err.fault) below c.group_at-group.ensures.is (c.loop-index.invariant all from many) (c.in-Err.ensures.verified all (fed g (goal.at.returns-in-Err g c).After-group_at-group all from many)) tt

pub returns : goal.returns
returns g c = λ all from many.
    let past : length (groups_of c.args.edition.now.plan.now) ≤ c.loop-index.index = omega (arith, c.group_count-index-end.ensures.count, number_is c.args.edition.now.plan.now c.args.rows.now c.requires.rows) in
    verified_to-all c.args.edition.now.plan.now all c.args.edition.now.out.now c.loop-index.index (shelf_told g.H.Shelf c.args.shelf.now) (shelf_told g.H.Shelf c.loop-index.shelf) c.loop-index.plates _ _ past (c.loop-index.invariant all from many)
