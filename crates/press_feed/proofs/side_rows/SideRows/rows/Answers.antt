-- The rows at the slot of the ink are in this ink.
use Rattle.std.proofs.Common.{◌≡◌, ◌∙◌, ap, subst, sym, arith}
use Rattle.std.specs.Prelude.{Some, slice_get}
use Rattle.pr_base.specs.Ink.{slot_of}
use Rattle.pr_base.proofs.Inks.{slot_below}
use Rattle.press_feed.specs.PlateRow.{IsRowsOf}
use Rattle.press_feed.specs.SideRows.{AreInAll, SideRowsData, drawns}
use Rattle.press_feed.proofs.SideRowsLemmas.{in_all_five, lent_own, lent_rows}
use Rattle.press_feed.proofs.side_rows.SideRows.rows.Goals as goal

pub index-requires : goal.index-requires
index-requires c =
    let five = in_all_five c.self.inside.inks.items (subst {A = SideRowsData} (λ r. AreInAll r.inks) (sym c.self.view_is) c.requires) in
    let below = slot_below c.args.ink in
    omega arith

pub returns-clause-rows : goal.returns-clause-rows
returns-clause-rows c =
    let all : AreInAll c.self.inside.inks.items = subst {A = SideRowsData} (λ r. AreInAll r.inks) (sym c.self.view_is) c.requires in
    subst {A = SideRowsData} (λ r. slice_get (drawns r.inks) (slot_of c.args.ink) ≡ Some c.drawn.result.now) c.self.view_is
    (lent_rows c.self.inside.inks.items c.args.ink c.slot.result c.index.result.now all c.slot.ensures.slot c.index.ensures ∙ ap Some (sym c.drawn.ensures))

pub returns-clause-own : goal.returns-clause-own
returns-clause-own c =
    let all : AreInAll c.self.inside.inks.items = subst {A = SideRowsData} (λ r. AreInAll r.inks) (sym c.self.view_is) c.requires in
    let there = lent_rows c.self.inside.inks.items c.args.ink c.slot.result c.index.result.now all c.slot.ensures.slot c.index.ensures ∙ ap Some (sym c.drawn.ensures) in
    subst {A = SideRowsData} (λ r. IsRowsOf r.job r.side c.args.ink c.drawn.result.now) c.self.view_is
    (lent_own c.self.inside.job.now c.self.inside.side c.self.inside.inks.items c.args.ink c.drawn.result.now all c.self.invariant.each there)
