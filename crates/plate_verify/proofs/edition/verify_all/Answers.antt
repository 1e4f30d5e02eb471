use Rattle.std.proofs.Common.{◌≡◌, ℕ, List, length, map, ap, sym, subst, ◌∙◌, Result, arith}
use Rattle.std.proofs.lemmas.List.{length-map}
use Rattle.pr_base.specs.Row.{row_size}
use Rattle.tif_packbits.specs.Frame.{frame_size, framed_row}
use Rattle.tif_plate.specs.declared.sides.Sides.{Sides}
use Rattle.plate_bytes.specs.Made.{PlateState}
use Rattle.plate_verify.specs.declared.checked.Checked.{Checked}
use Rattle.plate_verify.specs.declared.checked.VerifyFault.{VerifyFault}
use Rattle.plate_verify.specs.Verifying.{AfterAll, shelf_told}
use Rattle.plate_verify.specs.Making.{HaveSides}
use Rattle.plate_verify.specs.Verify.{FedFrom}
use Rattle.plan_rows.specs.Sides.{plate_sides}
use Rattle.plate_verify.proofs.CountLemmas.{after_all}
use Rattle.plate_verify.proofs.edition.verify_all.Goals as goal

pub returns : goal.returns
returns g c =
    let rows : List (List ℕ) = map framed_row (g.F.RowFeed.left c.args.feed.now) in
    let sides : c.plate_sides-sides.result ≡ plate_sides c.args.edition.now.plan.now = c.plate_sides-sides.ensures.sides in
    let fed : FedFrom c.args.edition.now.plan.now rows 0 c.deref_mut.result.now (g.F.RowFeed.left c.args.feed.now) (length c.deref_mut-2.result.now) = record {
      have = subst {A = List PlateState} (λ l. HaveSides (plate_sides c.args.edition.now.plan.now) l) (sym c.deref_mut.ensures.value) (subst {A = Sides} (λ s. HaveSides s c.in_ok-plates.plates.items) sides c.in_ok-plates.ensures.sides);
      five = omega (arith, ap {A = List PlateState} length c.deref_mut.ensures.value, c.in_ok-plates.ensures.five);
      feeds = c.requires.frames.are;
      each = c.requires.frames.each;
      small = c.requires.frames.small;
      frame = ap length c.deref_mut-2.ensures.value ∙ c.in_ok-frame.ensures ∙ ap {A = Sides} (λ s. frame_size (row_size s.width)) sides;
    } in
    subst {A = Result Checked VerifyFault} (λ r. AfterAll c.args.edition.now.plan.now rows c.args.edition.now.out.now (shelf_told g.H.Shelf c.args.shelf.now) (shelf_told g.H.Shelf c.verify_groups-verified.new.shelf) r) (sym c.answer.ensures)
    (after_all c.args.edition.now.plan.now rows c.args.edition.now.out.now (shelf_told g.H.Shelf c.args.shelf.now) (shelf_told g.H.Shelf c.verify_groups-verified.new.shelf) c.verify_groups-verified.result
    (c.verify_groups-verified.ensures rows fed (length-map (g.F.RowFeed.left c.args.feed.now) framed_row ∙ c.requires.total)))
