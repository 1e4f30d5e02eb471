-- The drawn rows begin anew, where the side and its chains are.
use Rattle.std.proofs.Common.{◌≡◌, ◌++◌, length, map, take, drop, refl, ap, sym, subst, ◌∙◌, arith}
use Rattle.press_feed.specs.InkRows.{begun}
use Rattle.press_feed.specs.SideRows.{IsAtGroup, SideRowsData, drawn_for, drawns}
use Rattle.press_feed.proofs.SideRowsLemmas.{begin_at, drawns-begun, lent, sides_begun}
use Rattle.press_feed.proofs.side_rows.SideRows.begin.Goals as goal
use Rattle.press_feed.proofs.side_rows.SideRows.begin.Goals.{After-begin_all}

-- the inks then
inks_are : (c : After-begin_all) → take c.self.inside.inks.len (c.begin_all.new.inks ++ drop (length c.begin_all.new.inks) c.self.inside.inks.items) ≡ map (begun c.args.group.now c.page-page.result c.args.first) c.self.inside.inks.items
inks_are c = lent (begun c.args.group.now c.page-page.result c.args.first) c.deref_mut.result.now c.self.inside.inks.items c.begin_all.new.inks c.self.inside.inks.len c.deref_mut.ensures.value c.begin_all.ensures (omega arith)

-- their drawn rows are of the page of the group
drawn_is : (c : After-begin_all) → drawns (take c.self.inside.inks.len (c.begin_all.new.inks ++ drop (length c.begin_all.new.inks) c.self.inside.inks.items))
    ≡ map (drawn_for c.args.group.now c.self.inside.side c.args.first 0) (drawns c.self.inside.inks.items)
drawn_is c =
    let at : IsAtGroup c.args.group.now c.args.first (record { job = c.self.inside.job.now; side = c.self.inside.side; held = c.self.inside.held; inks = c.self.inside.inks.items }) =
    subst {A = SideRowsData} (λ r. IsAtGroup c.args.group.now c.args.first r) (sym c.self.view_is) c.requires.at in
    ap drawns (inks_are c) ∙ drawns-begun c.args.group.now c.self.inside.side c.page-page.result c.args.first c.self.inside.inks.items (c.page-page.ensures ∙ at.page_is)

pub invariant_of-self : goal.invariant_of-self
invariant_of-self c =
    let s = c.self.inside in
    record {
      job_is = c.self.invariant.job_is;
      each = sides_begun s.job.now s.side s.side c.args.group.now c.args.first 0 s.inks.items _ (drawn_is (goal.at.invariant_of-self c).After-begin_all) c.self.invariant.each;
    }

pub returns-clause-at : goal.returns-clause-at
returns-clause-at c =
    let s = c.self.inside in
    let group = c.args.group.now in
    let new = c.begin_all.new.inks in
    let before : SideRowsData = record { job = s.job.now; side = s.side; held = s.held; inks = s.inks.items } in
    let after : SideRowsData = record before { inks = take s.inks.len (new ++ drop (length new) s.inks.items) } in
    begin_at group c.page-page.result c.args.first before after refl refl (inks_are (goal.at.returns-clause-at c).After-begin_all) (subst {A = SideRowsData} (λ r. IsAtGroup group c.args.first r) (sym c.self.view_is) c.requires.at)

pub returns-clause-drawn : goal.returns-clause-drawn
returns-clause-drawn c =
    drawn_is (goal.at.returns-clause-drawn c).After-begin_all ∙ ap {A = SideRowsData} (λ r. map (drawn_for c.args.group.now r.side c.args.first 0) (drawns r.inks)) c.self.view_is
