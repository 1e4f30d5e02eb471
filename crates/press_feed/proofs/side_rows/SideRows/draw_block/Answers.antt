-- The rows held come next in each ink, where they are drawn.
use Rattle.std.proofs.Common.{All, ◌≡◌, ◌+◌, ◌<◌, ◌≤◌, List, ◌++◌, length, map, take, drop, refl, ap, sym, subst, ◌∙◌, arith}
use Rattle.press_feed.specs.HeldRows.{HeldData}
use Rattle.press_feed.specs.InkRows.{InkData, IsNextIn, drawn_on}
use Rattle.press_feed.specs.SideRows.{IsAtGroup, IsOpenFor, SideRowsData, drawn_behind, drawns, next_of}
use Rattle.press_feed.proofs.SideRowsLemmas.{draw_at, draw_ready, drawns-drawn, lent, sides_drawn_on}
use Rattle.press_feed.proofs.side_rows.SideRows.draw_block.Goals as goal
use Rattle.press_feed.proofs.side_rows.SideRows.draw_block.Goals.{After-draw_all}

pub draw_all-requires : goal.draw_all-requires
draw_all-requires c =
    let s = c.self.inside in
    let e = c.self.view_is in
    let group = c.args.group.now in
    let rows = c.args.rows in
    let before : SideRowsData = record { job = s.job.now; side = s.side; held = s.held; inks = s.inks.items } in
    let at : IsAtGroup group (next_of before) before = subst {A = SideRowsData} (λ r. IsAtGroup group (next_of r) r) (sym e) c.requires.at in
    subst {A = List InkData} (λ inks. All (IsNextIn group c.show.new.self) inks) (sym c.deref_mut.ensures.value)
    (draw_ready group s.job.now s.side rows s.held c.show.new.self s.inks.items c.show.ensures at.chains c.self.invariant.job_is c.self.invariant.each c.requires.some
    (subst {A = SideRowsData} (λ r. next_of r + rows ≤ r.job.plan.page_height) (sym e) c.requires.within)
    (subst {A = SideRowsData} (λ r. rows < 8 → next_of r + rows ≡ r.job.plan.page_height) (sym e) c.requires.whole)
    (subst {A = SideRowsData} (λ r. All (IsOpenFor group r.held.page (next_of r) rows) (drawns r.inks)) (sym e) c.requires.free))

-- the inks then
inks_are : (c : After-draw_all) → take c.self.inside.inks.len (c.draw_all.new.inks ++ drop (length c.draw_all.new.inks) c.self.inside.inks.items) ≡ map (drawn_on c.args.group.now c.args.rows) c.self.inside.inks.items
inks_are c =
    lent (drawn_on c.args.group.now c.args.rows) c.deref_mut.result.now c.self.inside.inks.items c.draw_all.new.inks c.self.inside.inks.len c.deref_mut.ensures.value
    (c.draw_all.ensures ∙ ap {A = HeldData} (λ h. map (drawn_on c.args.group.now h.count) c.deref_mut.result.now) c.show.ensures) (omega arith)

pub invariant_of-self : goal.invariant_of-self
invariant_of-self c =
    let s = c.self.inside in
    let group = c.args.group.now in
    record {
      job_is = ap {A = HeldData} (λ h. h.job) c.show.ensures ∙ c.self.invariant.job_is;
      each = sides_drawn_on s.job.now s.side group c.args.rows s.inks.items _ (ap drawns (inks_are (goal.at.invariant_of-self c).After-draw_all) ∙ drawns-drawn group c.args.rows s.inks.items) c.self.invariant.each;
    }

pub returns-clause-at : goal.returns-clause-at
returns-clause-at c = λ eight.
    let s = c.self.inside in
    let group = c.args.group.now in
    let new = c.draw_all.new.inks in
    let before : SideRowsData = record { job = s.job.now; side = s.side; held = s.held; inks = s.inks.items } in
    let after : SideRowsData = record before { held = c.show.new.self; inks = take s.inks.len (new ++ drop (length new) s.inks.items) } in
    let at : IsAtGroup group (next_of before) before = subst {A = SideRowsData} (λ r. IsAtGroup group (next_of r) r) (sym c.self.view_is) c.requires.at in
    subst {A = SideRowsData} (λ r. IsAtGroup group (next_of r + 8) after) c.self.view_is (draw_at group c.args.rows before after eight c.show.ensures refl (inks_are (goal.at.returns-clause-at c).After-draw_all) at)

pub returns-clause-drawn : goal.returns-clause-drawn
returns-clause-drawn c =
    ap drawns (inks_are (goal.at.returns-clause-drawn c).After-draw_all) ∙ drawns-drawn c.args.group.now c.args.rows c.self.inside.inks.items
    ∙ ap {A = SideRowsData} (λ r. map (drawn_behind c.args.group.now c.args.rows) (drawns r.inks)) c.self.view_is
